-- After a solve the present state is optimal.
use Rattle.std.proofs.Common.{ℕ, List, ◌≡◌, arith, sym, subst}
use Rattle.std.proofs.lemmas.Int.{ints}
use Rattle.std.proofs.lemmas.Option.{slice_get_within}
use Rattle.dmf_state.specs.Network.{Network, IsNetwork}
use Rattle.dmf_state.specs.NetworkState.{NetworkState}
use Rattle.dmf_state.specs.declared.edit.Edit.{Edit}
use Rattle.dmf_solver.specs.Change.{Becomes}
use Rattle.dmf_solver.specs.Change as change
use Rattle.dmf_state.specs.Edit.{applied, Fits}
use Rattle.dmf_solver.specs.Greatest.{IsGreatest, IsSurpassed}
use Rattle.dmf_solver.specs.Laws.{SolvedIsGreatest, GreatestIsOptimal}
use Rattle.dmf_history.specs.Timeline.{Timeline, IsPresent, appended, Appends}
use Rattle.dmf_solver.specs.Optimal.{IsOptimal}
use Rattle.dmf_session.specs.Optimal.{HasOptimalPresent}
use Rattle.dmf_session.specs.Laws.{SolvedIsOptimal}
use Rattle.dmf_history.proofs.Appending.{appended-present, appends-applied}
use Rattle.dmf_session.proofs.Changed.{is-state}

-- No flow has a larger value than a greatest one.
pub not-surpassed : (n : Network) (flows : List ℕ) → IsGreatest n flows → IsSurpassed n flows → ⊥
not-surpassed n flows greatest larger = omega (arith, ints, greatest.none_larger larger.larger larger.flow, larger.exceeds)

-- A state that was appended to a timeline with a present state is the present one,
pub present-appended : (t u : Timeline) (s new : NetworkState) → IsPresent t s → u ≡ appended t new → IsPresent u new
present-appended t u s new present appends =
    subst (λ v. IsPresent v new) (sym appends) (appended-present t new (slice_get_within t.states t.place s present))

-- and if it is optimal, so is the present state.
HasOptimalPresent-appended : (t u : Timeline) (s new : NetworkState) → IsPresent t s → u ≡ appended t new → IsOptimal new → HasOptimalPresent u
HasOptimalPresent-appended t u s new present appends optimal =
    record { state = new; present = present-appended t u s new present appends; optimal = optimal }

-- A maximum flow that was planned on the present state and appended is optimal.
pub planned-optimal : GreatestIsOptimal → (t u : Timeline) (s : NetworkState) (edit : Edit) → IsPresent t s → Fits edit s
    → Becomes s change.Solve (applied edit s) → IsGreatest s.network (applied edit s).flows → Appends edit t u → HasOptimalPresent u
planned-optimal law t u s edit present fits becomes greatest appends =
    HasOptimalPresent-appended t u s (applied edit s) present (appends-applied t u s edit present appends)
    (law (applied edit s) fits.applied.network (subst (λ n. IsGreatest n (applied edit s).flows) (sym becomes.0) greatest))

-- After a solve that was not refused the present state is optimal.
pub solved-optimal : SolvedIsGreatest → GreatestIsOptimal → SolvedIsOptimal
solved-optimal solved law want_cut t u reply has a =
    let is = is-state t a.0 has a.1 in
    let network : IsNetwork a.2.new.network = subst IsNetwork (sym a.2.becomes.0) is.network in
    HasOptimalPresent-appended t u a.0 a.2.new a.1 a.2.appends (law a.2.new network (solved a.0 a.2.new is a.2.becomes))
