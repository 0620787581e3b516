use Rattle.dmf_state.specs.Direction.{along}
use Rattle.dmf_state.specs.Edit.{moved}
use Rattle.dmf_solver.specs.CarryingNetwork.{MayCarry}
use Rattle.dmf_solver.proofs.kept.Followed.{AreFollowed}
use Rattle.dmf_solver.proofs.following.carry_flows.Given as goal

abbrev pub invariant-loop-m : goal.invariant-loop-m
invariant-loop-m l =
    let moves = along l.direction l.moves in
    AreFollowed MayCarry l.state.network moves (moved moves l.state.flows) l.m-index l.search
