use Rattle.std.proofs.Common.{◌≡◌, ap, arith, length}
use Rattle.std.proofs.lemmas.Int.{ints}
use Rattle.std.proofs.lemmas.Slice.Zip.{AllZip-long}
use Rattle.dmf_solver.specs.Drain.{value_or_zero}
use Rattle.dmf_solver.proofs.kept.CarryingFollowed.{return-followed}
use Rattle.dmf_solver.specs.CarryingNetwork.{return_of}
use Rattle.dmf_solver.proofs.pairs.ArcPairs.{length-with_last}
use Rattle.dmf_solver.proofs.pairs.CarryingPairs.{by_carrying_pair}
use Rattle.dmf_solver.proofs.residual_network.with_value.Goals as goal

pub set_rooms-requires-clause-number : goal.set_rooms-requires-clause-number
set_rooms-requires-clause-number c =
    let s = c.args.state.now in
    let same = AllZip-long _ s.network.arcs s.flows c.arcs.ensures.state.flow.within in
    let pairs = length-with_last by_carrying_pair s.network.arcs s.flows (return_of s.network c.requires.0) same in
    omega (arith, pairs, ap length c.requires.1.pairs_are, ap length c.arcs.ensures.value)

pub returns-clause-carrying : goal.returns-clause-carrying
returns-clause-carrying c =
    let s = c.args.state.now in
    let state = c.arcs.ensures.state in
    let same = AllZip-long _ s.network.arcs s.flows state.flow.within in
    let value : c.value.result ≡ value_or_zero s.network s.flows = omega (arith, ints, c.value.ensures.value, state.value_from_zero) in
    return-followed s c.requires.0 (value_or_zero s.network s.flows) c.args.search _ same c.requires.1
    (rw (c.arcs.ensures.value, value) at c.set_rooms.ensures)
