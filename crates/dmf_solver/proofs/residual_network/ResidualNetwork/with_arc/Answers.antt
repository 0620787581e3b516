-- The pair of the arc goes in before that of the return link, and then gets its room.
use Rattle.std.proofs.Common.{◌≡◌, length, ap, sym, subst, arith}
use Rattle.std.specs.Prelude.{IfSome}
use Rattle.dmf_links.specs.Pair.{IsPair}
use Rattle.dmf_path.specs.Search.{Searched, with_pairs, with_rooms}
use Rattle.dmf_solver.specs.KeptNetwork.{IsNetworkOf}
use Rattle.dmf_solver.proofs.kept.Added.{pairs-before, pairs-longer, few-before, pair-added, search-added}
use Rattle.dmf_solver.proofs.kept.CarryingAdded.{some-added}
use Rattle.dmf_solver.proofs.residual_network.ResidualNetwork.with_arc.Goals as goal

pub insert-requires : goal.insert-requires
insert-requires c =
    let s = c.args.state.now in
    let before = subst (IsNetworkOf s) (sym c.self.view_is) c.requires.network in
    let count = pairs-before s c.args.arc c.requires.state c.self.inside.search before.residual in
    record {
      index = omega (arith, ap length c.arcs-k.ensures.value, count);
      pair = subst (λ nodes. IfSome c.residual_pair-pair.result (IsPair nodes)) (sym (ap (λ (x : Searched). x.nodes) before.residual))
          (pair-added s c.args.arc c.requires.state c.residual_pair-pair.result c.residual_pair-pair.ensures);
      few = omega (arith, count, few-before s c.args.arc c.requires.state);
    }

pub set_rooms-requires-clause-number : goal.set_rooms-requires-clause-number
set_rooms-requires-clause-number c =
    let s = c.args.state.now in
    let before = subst (IsNetworkOf s) (sym c.self.view_is) c.requires.network in
    omega (
      arith,
      ap length c.arcs-k.ensures.value,
      pairs-longer s c.args.arc c.requires.state c.residual_pair-pair.result c.self.inside.search c.in_ok-search.search before.residual
          c.in_ok-search.ensures.search,
    )

pub returns : goal.returns
returns c =
    let s = c.args.state.now in
    let before = subst (IsNetworkOf s) (sym c.self.view_is) c.requires.network in
    let made = c.in_ok-search.ensures in
    let pair = c.residual_pair-pair.result in
    let room = subst (λ k. c.set_rooms.new.self ≡ with_pairs c.in_ok-search.search (with_rooms c.in_ok-search.search.pairs k c.args.arc.cap 0))
    (ap length c.arcs-k.ensures.value) c.set_rooms.ensures in
    record {
      residual = search-added s c.args.arc c.requires.state pair c.self.inside.search c.in_ok-search.search c.set_rooms.new.self
          c.residual_pair-pair.ensures before.residual made.search room;
      carrying = some-added s c.args.arc c.requires.state pair c.residual_pair-pair.ensures c.self.inside.carrying before.carrying
          c.in_ok-search.carrying made.other;
    }
