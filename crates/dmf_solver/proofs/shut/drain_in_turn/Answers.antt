use Rattle.std.proofs.Common.{◌≡◌, ◌-◌, ◌∙◌, arith, length, refl, sym}
use Rattle.std.proofs.lemmas.Option.{get_or_from_slice_get}
use Rattle.dmf_state.specs.Flow.{flow_on}
use Rattle.dmf_state.proofs.ChangedArc.{has_arc-within}
use Rattle.dmf_solver.proofs.draining.DrainingSearch.{length-carries}
use Rattle.dmf_solver.proofs.DrainedNext.{drained-by_list, drained-by_search, drained-in_list}
use Rattle.dmf_solver.proofs.shut.drain_in_turn.Goals as goal
use Rattle.dmf_solver.proofs.shut.drain_in_turn.Goals.{After-flow-flow}

pub drain_along-requires-clause-no_loop : goal.drain_along-requires-clause-no_loop
drain_along-requires-clause-no_loop g c = rw c.arc-arc.ensures.value at c.if-arc.false

-- the flow on the arc
on : (g : _) (c : After-flow-flow g) → flow_on c.args.state.now.flows c.args.turn.arc ≡ c.flow-flow.result
on g c = get_or_from_slice_get c.args.state.now.flows (c.args.turn.arc - 1) c.flow-flow.result 0 c.flow-flow.ensures

pub returns-then-flow-gt0-clause-touched : goal.returns-then-flow-gt0-clause-touched
returns-then-flow-gt0-clause-touched g c =
    let s = c.args.state.now in
    let at = has_arc-within s.network c.args.turn.arc c.requires.is_there in
    let long = length-carries s c.requires.carrying.0 _ c.args.search.now c.requires.carrying.1 in
    record {
      more = c.add.ensures.more;
      below = c.add.ensures.below (length c.args.search.now.pairs) (omega (arith, at.0, at.1, long));
      kept = λ k untouched. refl;
    }

pub returns-then-flow-gt0-clause-drains : goal.returns-then-flow-gt0-clause-drains
returns-then-flow-gt0-clause-drains g c = λ unpaired carries first.
    let loop = rw c.arc-arc.ensures.value at c.if-arc.true in
    let is : c.flow-flow.result ≡ flow_on unpaired c.args.turn.arc =
    sym (first ∙ on g (goal.at.returns-then-flow-gt0-clause-drains g c).After-flow-flow) in
    drained-by_list c.args.state.now c.args.turn.arc unpaired c.args.search.now _ c.requires.is_there loop carries
    (omega (arith, is, c.if-flow-gt0.true)) c.add.ensures.touched

pub returns-else-flow-gt0-clause-drains : goal.returns-else-flow-gt0-clause-drains
returns-else-flow-gt0-clause-drains g c = λ unpaired carries first.
    let loop = rw c.arc-arc.ensures.value at c.if-arc.true in
    drained-in_list c.args.state.now c.args.turn.arc unpaired c.args.search.now _ c.requires.is_there loop carries
    (omega (arith, first, on g (goal.at.returns-else-flow-gt0-clause-drains g c).After-flow-flow, c.if-flow-gt0.false))

pub returns-else-arc-clause-drains : goal.returns-else-arc-clause-drains
returns-else-arc-clause-drains g c = λ unpaired carries first.
    let drains = c.drain_along.ensures.drains unpaired carries in
    drained-by_search c.args.state.now c.args.turn.arc unpaired c.args.search.now c.drain_along.new.search _ (rw c.arc-arc.ensures.value at c.if-arc.false)
    carries drains.0 (rw c.requires.to_zero at drains.1) c.drain_along.ensures.touched.kept
