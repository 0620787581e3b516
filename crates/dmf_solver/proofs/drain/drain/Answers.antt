use Rattle.std.proofs.Common.{List, ℕ, ap, arith, length}
use Rattle.std.proofs.lemmas.Slice.Zip.{AllZip-long}
use Rattle.dmf_state.specs.Flow.{flow_on}
use Rattle.dmf_state.proofs.ChangedArc.{has_arc-within}
use Rattle.dmf_solver.proofs.draining.DrainingWalk.{draining-none, draining-loop}
use Rattle.dmf_solver.proofs.drain.drain.Goals as goal

pub bounds-flows-j : goal.bounds-flows-j
bounds-flows-j g c =
    let state = c.flows.ensures.state in
    let at = has_arc-within c.args.state.now.network c.args.turn.arc c.requires.is_there in
    omega (arith, at.1, AllZip-long _ _ _ state.flow.within, ap (λ (flows : List ℕ). length flows) c.flows.ensures.value)

pub returns-then-flow-limit-clause-moves : goal.returns-then-flow-limit-clause-moves
returns-then-flow-limit-clause-moves g c =
    let within = rw c.flows.ensures.value at c.if-flow-limit.true in
    rw c.new.ensures.items (draining-none c.args.state.now c.args.turn.arc c.args.turn.limit c.flows.ensures.state c.requires.is_there within)

pub returns-then-arc-clause-moves : goal.returns-then-arc-clause-moves
returns-then-arc-clause-moves g c =
    let loop = rw c.arc-arc.ensures.value at c.if-arc.true in
    let on = ap (λ flows. flow_on flows c.args.turn.arc) c.flows.ensures.value in
    draining-loop c.args.state.now c.args.turn.arc _ c.args.turn.limit c.in_ok-moves.moves.items c.flows.ensures.state
    c.requires.is_there loop on c.if-flow-limit.false
    c.in_ok-moves.ensures
