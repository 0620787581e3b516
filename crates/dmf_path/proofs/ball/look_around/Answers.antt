-- The search from the goal, and the level that it has not looked through.
use Rattle.std.proofs.Common.{refl, ap, arith}
use Rattle.dmf_path.proofs.labels.InsideBall.{next, last, listed-spread, near-spread, nodes-spread}
use Rattle.dmf_path.proofs.labels.Labelling.{label-below, starts-spread}
use Rattle.dmf_path.proofs.labels.Roots.{first-root}
use Rattle.dmf_path.proofs.ball.look_around.Goals as goal

pub loop-around-init : goal.loop-around-init
loop-around-init c = record {
  so_far = starts-spread c.requires.goal c.args.links.now.flags_are.0 c.requires.clean c.begin.ensures;
  roots = ap (λ f. f.roots) c.begin.ensures;
}

pub returns-then-has_next-clause-near : goal.returns-then-has_next-clause-near
returns-then-has_next-clause-near c =
    let i = c.loop-around.invariant in
    let more = c.has_next-2.ensures.more c.if-has_next.true in
    let low = label-below i.so_far c.loop-around.around.done c.args.links.now.table.value.are more in
    near-spread i.so_far (next more c.next_label.ensures) (omega (arith, low, c.next_label.ensures)) c.args.links.now.table.value.are
    c.args.links.now.flags_are (rw i.roots (first-root c.args.goal))

pub returns-then-has_next-clause-listed : goal.returns-then-has_next-clause-listed
returns-then-has_next-clause-listed c = listed-spread c.loop-around.invariant.so_far

pub returns-then-has_next-clause-nodes : goal.returns-then-has_next-clause-nodes
returns-then-has_next-clause-nodes c = nodes-spread c.loop-around.invariant.so_far

pub returns-clause-near : goal.returns-clause-near
returns-clause-near c =
    let i = c.loop-around.invariant in
    near-spread i.so_far (last (c.has_next-2.ensures.none c.if-has_next.false) refl) (omega arith) c.args.links.now.table.value.are
    c.args.links.now.flags_are (rw i.roots (first-root c.args.goal))

pub returns-clause-listed : goal.returns-clause-listed
returns-clause-listed c = listed-spread c.loop-around.invariant.so_far

pub returns-clause-nodes : goal.returns-clause-nodes
returns-clause-nodes c = nodes-spread c.loop-around.invariant.so_far
