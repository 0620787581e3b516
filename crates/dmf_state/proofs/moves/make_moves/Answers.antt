use Rattle.dmf_state.specs.declared.arc.Arc.{Arc}
use Rattle.dmf_state.specs.Direction.{along}
use Rattle.dmf_state.proofs.Moving.{IsMoveAt, moved-none, next-move, part-of_sum, small-after, sum-after, moved-more, moved-all}
use Rattle.dmf_state.proofs.TakenBack.{long-along, move-along}
use Rattle.dmf_state.proofs.moves.make_moves.Goals as goal
use Rattle.dmf_state.proofs.moves.make_moves.Goals.{After-step-step}

-- the next move, in its direction
stands : (c : After-step-step) → IsMoveAt (along c.args.moving.direction c.args.moving.moves.now) c.loop-m.m-index c.step-step.result
stands c = move-along c.args.moving.direction c.args.moving.moves.now _ _ c.loop-m-test.true c.step-step.ensures

pub loop-m-init : goal.loop-m-init
loop-m-init c = moved-none _ _ _ _ _ c.requires.fit c.requires.within c.requires.at_node

pub overflow_sub-i : goal.overflow_sub-i
overflow_sub-i c = (next-move (stands (goal.at.overflow_sub-i c).After-step-step) c.loop-m.invariant).from_one

pub bounds-arcs-i : goal.bounds-arcs-i
bounds-arcs-i c = (next-move (stands (goal.at.bounds-arcs-i c).After-step-step) c.loop-m.invariant).in_arcs

pub sum_after-at_node-requires-clause-part : goal.sum_after-at_node-requires-clause-part
sum_after-at_node-requires-clause-part c = λ here.
    rw c.loop-m.invariant.at_node.leaving
    (part-of_sum (stands (goal.at.sum_after-at_node-requires-clause-part c).After-step-step) c.loop-m.invariant (λ (a : Arc). a.tail) here)

pub sum_after-at_node-requires-clause-small : goal.sum_after-at_node-requires-clause-small
sum_after-at_node-requires-clause-small c = λ here.
    rw c.loop-m.invariant.at_node.leaving
    (small-after (stands (goal.at.sum_after-at_node-requires-clause-small c).After-step-step) c.loop-m.invariant
    (λ (a : Arc). a.tail) c.requires.within_after c.requires.capacities here)

pub sum_after-at_node-requires-in-loop-m-clause-part :
    goal.sum_after-at_node-requires-in-loop-m-clause-part
sum_after-at_node-requires-in-loop-m-clause-part c = λ here.
    rw c.loop-m.invariant.at_node.entering
    (part-of_sum (stands (goal.at.sum_after-at_node-requires-in-loop-m-clause-part c).After-step-step) c.loop-m.invariant (λ (a : Arc). a.head) here)

pub sum_after-at_node-requires-in-loop-m-clause-small :
    goal.sum_after-at_node-requires-in-loop-m-clause-small
sum_after-at_node-requires-in-loop-m-clause-small c = λ here.
    rw c.loop-m.invariant.at_node.entering
    (small-after (stands (goal.at.sum_after-at_node-requires-in-loop-m-clause-small c).After-step-step) c.loop-m.invariant
    (λ (a : Arc). a.head) c.requires.within_after c.requires.capacities here)

pub bounds-flows-i : goal.bounds-flows-i
bounds-flows-i c = (next-move (stands (goal.at.bounds-flows-i c).After-step-step) c.loop-m.invariant).in_flows

pub loop-m-preserved : goal.loop-m-preserved
loop-m-preserved c =
    moved-more (stands (goal.at.loop-m-preserved c).After-step-step) c.loop-m.invariant _ c.requires.within_after (record {
      leaving = sum-after (stands (goal.at.loop-m-preserved c).After-step-step) c.loop-m.invariant
          (λ (a : Arc). a.tail) _ c.loop-m.invariant.at_node.leaving _ c.sum_after-at_node.ensures;
      entering = sum-after (stands (goal.at.loop-m-preserved c).After-step-step) c.loop-m.invariant
          (λ (a : Arc). a.head) _ c.loop-m.invariant.at_node.entering _ c.sum_after-at_node-in-loop-m.ensures;
    })

pub returns-clause-flows : goal.returns-clause-flows
returns-clause-flows c = moved-all _ _ _ _ _ _ _ (long-along c.args.moving.direction c.args.moving.moves.now _ c.loop-m-test.false) c.loop-m.invariant

pub returns-clause-at_node : goal.returns-clause-at_node
returns-clause-at_node c = c.loop-m.invariant.at_node
