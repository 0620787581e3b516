use Rattle.std.proofs.Common.{◌≡◌, ◌<◌, ◌-◌, arith, length, ap, subst, Some, refl}
use Rattle.std.specs.List.{slice_get}
use Rattle.std.proofs.lemmas.Option.{slice_get_read}
use Rattle.std.proofs.lemmas.Slice.Zip.{AllZip-long}
use Rattle.dmf_state.proofs.state.State.flow.Goals as goal

pub index-requires : goal.index-requires
index-requires c =
    let same = AllZip-long _ _ _ c.self.invariant.state.flow.within in
    omega (arith, ap (λ s. length s.network.arcs) c.self.view_is)

pub returns : goal.returns
returns c =
    let same = AllZip-long _ _ _ c.self.invariant.state.flow.within in
    let within : c.args.j - 1 < length c.self.inside.flows.items = omega (arith, ap (λ s. length s.network.arcs) c.self.view_is) in
    subst (λ s. slice_get s.flows (c.args.j - 1) ≡ Some c.index.result.now) c.self.view_is
    (slice_get_read c.self.inside.flows.items _ _ _ refl within c.index.ensures)
