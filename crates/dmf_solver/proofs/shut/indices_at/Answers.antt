use Rattle.std.proofs.Common.{◌-◌, length, ap, sym, subst}
use Rattle.std.specs.List.{range_with_len}
use Rattle.dmf_solver.specs.KeptNetwork.{IsNetworkOf}
use Rattle.dmf_solver.specs.Moves.{CoverOpen}
use Rattle.dmf_solver.proofs.pairs.ListedOpen.{all-cover_open, pairs-cover_open}
use Rattle.dmf_solver.proofs.shut.indices_at.Goals as goal

pub returns-in-Some : goal.returns-in-Some
returns-in-Some c =
    let is : IsNetworkOf c.args.state.now c.in-Some.network = rw c.in-Some.is at c.requires.kept in
    pairs-cover_open c.args.state.now c.in-Some.network.residual c.args.v _ c.requires.node.from_one c.arcs-count.ensures.state is.residual c.indices_at.ensures

pub returns-in-None : goal.returns-in-None
returns-in-None c =
    subst (λ n. CoverOpen c.args.state.now.network.arcs c.args.v (range_with_len 0 (n - 0))) (sym (ap length c.arcs-count.ensures.value))
    (all-cover_open c.args.state.now.network.arcs c.args.v)
