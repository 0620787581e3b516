-- The pair of the arc is the one before that of the return link.
use Rattle.std.proofs.Common.{length, ap, subst, sym, arith}
use Rattle.dmf_solver.specs.KeptNetwork.{IsNetworkOf}
use Rattle.dmf_solver.proofs.kept.CarryingAdded.{some-before}
use Rattle.dmf_solver.proofs.kept.Removed.{some-pairs, long-network, search-before}
use Rattle.dmf_solver.proofs.residual_network.ResidualNetwork.without_last_arc.Goals as goal

pub remove-requires : goal.remove-requires
remove-requires c =
    let s = c.args.state.now in
    let of = c.self.inside.search in
    let before = subst (IsNetworkOf s) (sym c.self.view_is) c.requires.network in
    let some = some-pairs s c.requires.last of before.residual in
    let long = long-network s of c.arcs.ensures.state before.residual in
    record { index = omega (arith, ap length c.arcs.ensures.value, some, long) }

pub returns : goal.returns
returns c =
    let t = c.args.state.now in
    let before = subst (IsNetworkOf t) (sym c.self.view_is) c.requires.network in
    let made = c.in_ok-search.ensures in
    record {
      residual = search-before t c.requires.last c.self.inside.search c.in_ok-search.search before.residual made.search;
      carrying = some-before t c.requires.last c.self.inside.carrying before.carrying c.in_ok-search.carrying made.other;
    }
