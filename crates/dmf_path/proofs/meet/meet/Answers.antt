-- One side has no node left to expand: no path is left.
use Rattle.std.proofs.Common.{rules, ◌≡◌, None, refl}
use Rattle.dmf_path.proofs.labels.Meeting.{on-again, on-from, goal-used_up, start-used_up}
use Rattle.dmf_path.proofs.meet.meet.Goals as goal

pub loop-from_start-init : goal.loop-from_start-init
loop-from_start-init c = record { nearing = c.requires; on = on-from c.requires; kept = refl }

pub loop-from_start-preserved : goal.loop-from_start-preserved
loop-from_start-preserved c =
    let met = c.expand_one-met.ensures in
    let none : c.expand_one-met.result ≡ None = search rules in
    record {
      nearing = met.nearing none;
      on = on-again c.loop-from_start.invariant.on (rw none at met.on);
      kept = c.loop-from_start.invariant.kept;
    }

pub returns-then-is_some-clause-on : goal.returns-then-is_some-clause-on
returns-then-is_some-clause-on c = on-again c.loop-from_start.invariant.on c.expand_one-met.ensures.on

pub returns-then-not-has_next-clause-none : goal.returns-then-not-has_next-clause-none
returns-then-not-has_next-clause-none c is =
    let i = c.loop-from_start.invariant in
    rw (← i.on.goal_roots, ← i.on.start_roots)
    (start-used_up i.nearing (c.has_next-in-loop-from_start.ensures.none c.if-not-has_next.true) c.mark_labelled.new.marks
    (rw c.labels.ensures at c.mark_labelled.ensures))

pub returns-clause-none : goal.returns-clause-none
returns-clause-none c is =
    let i = c.loop-from_start.invariant in
    rw (← i.on.goal_roots, ← i.on.start_roots)
    (goal-used_up i.nearing (c.has_next.ensures.none c.loop-from_start-test.false) c.mark_unlabelled.new.marks
    (rw c.labels-2.ensures at c.mark_unlabelled.ensures))
