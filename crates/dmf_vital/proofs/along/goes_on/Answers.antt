use Rattle.std.proofs.Common.{◌-◌, length, ap, arith}
use Rattle.std.proofs.lemmas.Slice.Zip.{AllZip-long}
use Rattle.dmf_state.specs.declared.arc.Arc.{Arc}
use Rattle.dmf_state.proofs.Changing.{within-at}
use Rattle.dmf_vital.proofs.along.goes_on.Goals as goal

pub bounds-flows-hop : goal.bounds-flows-hop
bounds-flows-hop c = omega (
  arith,
  c.if-hop-eq0.false,
  c.if-hop-arcs.false,
  ap length c.arcs.ensures.value,
  AllZip-long _ c.args.state.now.network.arcs c.args.flows.now c.requires,
)

pub room_of-room-requires : goal.room_of-room-requires
room_of-room-requires c = omega (
  arith,
  within-at c.args.state.now.network.arcs c.args.flows.now (c.args.hop.arc - 1) c.requires,
  ap (λ (a : Arc). a.cap) c.arc-arc.ensures.value,
)
