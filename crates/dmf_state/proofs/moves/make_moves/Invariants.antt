use Rattle.dmf_state.specs.Direction.{along}
use Rattle.dmf_state.specs.Edit.{moved}
use Rattle.dmf_state.proofs.Moving.{AreMoved}
use Rattle.dmf_state.proofs.moves.make_moves.Given as goal

abbrev pub invariant-loop-m : goal.invariant-loop-m
invariant-loop-m l =
    let moves = along l.moving.direction l.moving.moves.now in
    AreMoved l.arcs moves (moved moves l.initial.flows) l.node l.m-index l.flows l.at_node
