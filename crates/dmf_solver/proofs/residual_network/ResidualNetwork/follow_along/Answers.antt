use Rattle.std.proofs.Common.{ap, sym, ◌∙◌, subst}
use Rattle.dmf_state.specs.Direction.{along, edited_along}
use Rattle.dmf_state.specs.Edit.{moved, moves_of}
use Rattle.dmf_solver.specs.KeptNetwork.{IsNetworkOf}
use Rattle.dmf_solver.specs.ResidualNetwork.{residual_search}
use Rattle.dmf_solver.proofs.kept.CarryingFollowed.{some_carry-along}
use Rattle.dmf_solver.proofs.kept.Followed.{flows-along, moves-along}
use Rattle.dmf_solver.proofs.residual_network.ResidualNetwork.follow_along.Goals as goal

pub put_flows-requires-clause-residual : goal.put_flows-requires-clause-residual
put_flows-requires-clause-residual c = (subst (IsNetworkOf c.args.state.now) (sym c.self.view_is) c.requires.network).residual

pub put_flows-requires-clause-fit : goal.put_flows-requires-clause-fit
put_flows-requires-clause-fit c = rw c.moves-moves.ensures (moves-along c.args.direction c.args.edit.now c.args.state.now c.requires.fits)

pub carry_flows-requires : goal.carry_flows-requires
carry_flows-requires c = record {
  state = c.put_flows.ensures.state;
  carrying = rw c.take.ensures.value (subst (IsNetworkOf c.args.state.now) (sym c.self.view_is) c.requires.network).carrying;
  fit = rw c.moves-moves.ensures (moves-along c.args.direction c.args.edit.now c.args.state.now c.requires.fits);
}

pub returns : goal.returns
returns c =
    let s = c.args.state.now in
    let edit = c.args.edit.now in
    let d = c.args.direction in
    let none = c.requires.adds_none in
    record {
      residual =
          c.put_capacities.ensures (moved (along d (moves_of edit)) s.flows) (rw c.moves-moves.ensures at c.put_flows.ensures.flows)
          ∙ ap (residual_search (edited_along d edit s).network) (flows-along d edit s none);
      carrying = some_carry-along d edit s c.carry_flows.result none (rw c.moves-moves.ensures at c.carry_flows.ensures);
    }
