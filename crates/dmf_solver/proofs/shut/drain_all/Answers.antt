use Rattle.std.proofs.Common.{◌∙◌, sym}
use Rattle.dmf_state.specs.Edit.{numbers}
use Rattle.dmf_state.proofs.ClosedArcs.{HasArcs-open}
use Rattle.dmf_solver.proofs.draining.DrainedInTurn.{drains-none_in_turn, shutting-moves}
use Rattle.dmf_solver.proofs.draining.DrainingWalk.{differences-none}
use Rattle.dmf_solver.proofs.shut.drain_all.Goals as goal

pub returns-then-are_without_flow-clause-moves : goal.returns-then-are_without_flow-clause-moves
returns-then-are_without_flow-clause-moves g c =
    let s = c.args.state.now in
    let js = numbers c.args.arcs.now in
    let none = c.are_without_flow.ensures c.if-are_without_flow.true in
    shutting-moves s js s.flows c.new.result.items c.requires.state (HasArcs-open 0 c.args.arcs.now s.network c.requires.arcs)
    (drains-none_in_turn s.network js s.flows none) (c.new.ensures.items ∙ sym (differences-none 1 s.flows))
