-- The side that goes on meets the other one.
use Rattle.std.proofs.Common.{refl, arith, inl, inr}
use Rattle.dmf_path.proofs.labels.Meeting.{has-met_goal, has-met_start}
use Rattle.dmf_path.proofs.meet.expand_one.Goals as goal

pub returns-then-waiting_links : goal.returns-then-waiting_links
returns-then-waiting_links c =
    let n = c.requires.nearing in
    let e = rw (c.deref-then-waiting_links.ensures, c.deref-then-waiting_links-2.ensures.value, c.labels.ensures) at c.expand_level.ensures in
    record {
      on = record {
        goal_side = n.goal_side;
        start_side = e.so_far;
        met = λ v is.
            let met = e.both v is in
            has-met_start c.args.links.now c.args.to_goal.now c.args.from_start.now n c.requires.goal_ahead c.requires.start_ahead (rw e.roots at e.levels n.start.alone)
            e.beyond met.0 met.1 met.2;
        goal_roots = refl;
        start_roots = e.roots;
      };
      nearing = λ none. record {
        goal = n.goal;
        start = rw e.roots n.start;
        goal_side = n.goal_side;
        start_side = e.so_far;
        goal_rest = n.goal_rest;
        start_rest = e.at_rest none;
        apart = λ v within. elim (e.apart none v (omega (arith, within, n.goal_side.one_each, e.so_far.one_each))) [
          | inl here ↦ inr here
          | inr there ↦ inl there
        ];
      };
      further = λ none. omega (arith, e.further none);
    }

pub returns : goal.returns
returns c =
    let n = c.requires.nearing in
    let e = rw (c.deref-3.ensures, c.deref-4.ensures.value, c.labels-2.ensures) at c.expand_level-2.ensures in
    record {
      on = record {
        goal_side = e.so_far;
        start_side = n.start_side;
        met = λ v is.
            let met = e.both v is in
            has-met_goal c.args.links.now c.args.to_goal.now c.args.from_start.now n c.requires.goal_ahead c.requires.start_ahead (rw e.roots at e.levels n.goal.alone)
            e.beyond met.0 met.1 met.2;
        goal_roots = e.roots;
        start_roots = refl;
      };
      nearing = λ none. record {
        goal = rw e.roots n.goal;
        start = n.start;
        goal_side = e.so_far;
        start_side = n.start_side;
        goal_rest = e.at_rest none;
        start_rest = n.start_rest;
        apart = e.apart none;
      };
      further = λ none. omega (arith, e.further none);
    }
