use Rattle.std.proofs.Common.{◌≡◌, ◌+◌, ◌-◌, arith, ap, refl, sym, ◌∙◌, get_or, drop}
use Rattle.std.proofs.lemmas.Bool.{false≢true}
use Rattle.std.proofs.lemmas.List.Sums.{sum_by-cons}
use Rattle.std.proofs.lemmas.Option.{get_or_from_slice_get}
use Rattle.dmf_state.specs.Edit.{numbers}
use Rattle.dmf_state.specs.Flow.{flow_on, flow_on_all}
use Rattle.dmf_state.proofs.ChangedArc.{has_arc-within}
use Rattle.dmf_state.proofs.ClosedArcs.{no_shutting, open-at, numbers-next, numbers-end}
use Rattle.dmf_solver.proofs.shut.are_without_flow.Goals as goal

pub flow-requires-clause-from_one : goal.flow-requires-clause-from_one
flow-requires-clause-from_one c =
    let s = c.args.state.now in
    (has_arc-within s.network _ (open-at 0 c.args.arcs.now s.network c.loop-shutting.shutting-index c.requires c.loop-shutting-test.true).is_there).0

pub flow-requires-clause-to_last : goal.flow-requires-clause-to_last
flow-requires-clause-to_last c =
    let s = c.args.state.now in
    let at = has_arc-within s.network _ (open-at 0 c.args.arcs.now s.network c.loop-shutting.shutting-index c.requires c.loop-shutting-test.true).is_there in
    omega (arith, at.0, at.1)

pub loop-shutting-init : goal.loop-shutting-init
loop-shutting-init c = refl

pub returns-then-flow-ne0 : goal.returns-then-flow-ne0
returns-then-flow-ne0 c = λ none. absurd (false≢true none)

pub loop-shutting-preserved : goal.loop-shutting-preserved
loop-shutting-preserved c =
    let flows = c.args.state.now.flows in
    let arcs = c.args.arcs.now in
    let j = (get_or arcs c.loop-shutting.shutting-index no_shutting).arc in
    let none : flow_on flows j ≡ 0 = get_or_from_slice_get flows (j - 1) c.flow.result 0 c.flow.ensures ∙ c.if-flow-ne0.false in
    let first = ap (flow_on_all flows) (numbers-next arcs c.loop-shutting.shutting-index c.loop-shutting-test.true) in
    let sum = sum_by-cons (flow_on flows) j (numbers (drop (c.loop-shutting.shutting-index + 1) arcs)) in
    omega (arith, first, sum, none, c.loop-shutting.invariant)

pub returns : goal.returns
returns c = λ _.
    sym c.loop-shutting.invariant
    ∙ ap (flow_on_all c.args.state.now.flows) (numbers-end c.args.arcs.now c.loop-shutting.shutting-index c.loop-shutting-test.false)
