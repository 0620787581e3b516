-- A kept network is the network of the present state, also after a state is appended.
use Rattle.std.proofs.Common.{Option, Some, sym, subst}
use Rattle.dmf_state.specs.declared.edit.Edit.{Edit}
use Rattle.dmf_state.specs.NetworkState.{NetworkState}
use Rattle.dmf_solver.specs.KeptNetwork.{KeptNetwork, IsNetworkOf, KeepsNetwork}
use Rattle.dmf_history.specs.Timeline.{Timeline, IsPresent, Appends}
use Rattle.dmf_session.specs.Kept.{KeepsPresent, KeepsApplied}
use Rattle.dmf_history.proofs.Appending.{one-present, now-present}

-- The network of the state that an edit makes is the network of the present state once that state is appended.
pub KeepsPresent-appended : (t u : Timeline) (edit : Edit) (kept : Option KeptNetwork) → KeepsApplied edit t kept → Appends edit t u → KeepsPresent u kept
KeepsPresent-appended t u edit kept fits appends p shown =
    subst (λ x. KeepsNetwork x kept) (sym (now-present t u appends.state p edit appends.present appends shown)) (fits appends.state appends.present)

-- A network of the present state can be kept, since there is only one present state.
pub KeepsPresent-one : (t : Timeline) (s : NetworkState) (network : KeptNetwork) → IsPresent t s → IsNetworkOf s network → KeepsPresent t (Some network)
KeepsPresent-one t s network present is p shown = subst (λ x. IsNetworkOf x network) (one-present t s p present shown) is
