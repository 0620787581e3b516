-- What is so of numbers that are a flow.
use Rattle.std.proofs.Common.{ℕ, ◌≡◌, ◌⊎◌, inl, inr, List, refl, subst}
use Rattle.std.specs.Prelude.{Option, None, MatchOption}
use Rattle.dmf_state.specs.declared.fault.FlowFault.{FlowFault}
use Rattle.dmf_state.specs.FlowFault.{flow_fault}
use Rattle.dmf_state.specs.NetworkState.{NetworkState, with_flows}
use Rattle.dmf_c.specs.Arrays.{TellsGreatest, JudgesFlow, flow_code, flow_place}
use Rattle.dmf_c.specs.Status.{DMF_NO_MEMORY}

pub judged : (s t : NetworkState) (flows : List ℕ) (code : ℕ) → t ≡ with_flows s flows → None ≡ flow_fault s.network flows
    → (code ≡ DMF_NO_MEMORY) ⊎ TellsGreatest t t.flows code → ((code ≡ DMF_NO_MEMORY) × (◌≡◌ {A = ℕ} 0 0)) ⊎ JudgesFlow s flows code 0
judged s t flows code e none (inl one) = inl (one, refl)
judged s t flows code e none (inr told) =
    let told' : TellsGreatest s flows code = subst (λ (u : NetworkState). TellsGreatest u u.flows code) e told in
    inr (subst (λ (o : Option FlowFault). MatchOption o (TellsGreatest s flows code × (◌≡◌ {A = ℕ} 0 0)) (λ fault. (code ≡ flow_code fault) × (◌≡◌ {A = ℕ} 0 (flow_place fault)))) none (told', refl))
