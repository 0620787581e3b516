-- What C gets of a state whose flow is greatest.
use Rattle.std.proofs.Common.{ℕ, ◌≡◌, ◌<◌, ◌==◌, inl, inr, List, Bool, true, false, Option, Some, None, length, nat_lt, pos, refl, sym, ◌∙◌, subst, arith}
use Rattle.std.specs.Bool.{MatchBool}
use Rattle.std.proofs.lemmas.Bool.{or_cases, eqb-true, eqb-false, lt-ltb, le-ltb}
use Rattle.dmf_state.specs.Flow.{flow_value}
use Rattle.dmf_state.specs.Network.{Network, IsNetwork}
use Rattle.dmf_state.specs.NetworkState.{NetworkState}
use Rattle.dmf_state.specs.Side.{CutSide}
use Rattle.dmf_solver.specs.Greatest.{IsGreatest}
use Rattle.dmf_solver.specs.Laws.{GreatestIsOptimal}
use Rattle.dmf_solver.specs.Planning.{IsSideWanted}
use Rattle.dmf_c.specs.Arrays.{MarksSide}
use Rattle.dmf_c.specs.MaximumFlow.{IsOptimalValue, IsMaximumFlow, HasFlowsWanted, MarksSideWanted, MarksIfSome}
use Rattle.dmf_c.specs.Ranges.{is_column}
use Rattle.dmf_c.proofs.Siding.{marks-network}

module _ (n : Network) (s : NetworkState) (value : ℕ) (same : s.network ≡ n) (greatest : IsGreatest s.network s.flows) (is : pos value ≡ flow_value s.network s.flows) where
  pub optimal-value : GreatestIsOptimal → IsNetwork s.network → IsOptimalValue n value
  optimal-value law network =
      let found : IsOptimalValue s.network value = record {
        flows = s.flows;
        optimal = law (record { network = s.network; flows = s.flows }) network greatest;
        value_is = is;
      } in
      subst (λ (m : Network). IsOptimalValue m value) same found

  pub flows-wanted : (before after : List ℕ) → MatchBool (length before == 0) (after ≡ before) (after ≡ s.flows) → HasFlowsWanted n value before after
  flows-wanted before after = on (length before == 0)
    where
      on : (b : Bool) → MatchBool b (after ≡ before) (after ≡ s.flows) → MatchBool b (after ≡ before) (IsMaximumFlow n value after)
      on true kept = kept
      on false written =
          let found : IsMaximumFlow s.network value s.flows = record { greatest = greatest; value_is = is } in
          let own : IsMaximumFlow n value s.flows = subst (λ (m : Network). IsMaximumFlow m value s.flows) same found in
          subst (λ (flows : List ℕ). IsMaximumFlow n value flows) (sym written) own

-- An array that is wanted has a place for each.
pub column : (count given : ℕ) → is_column count given ≡ true → 0 < given → given ≡ count
column count given fits wanted =
    elim (or_cases (given == 0) (given == count) fits) [
      | inl empty ↦ absurd (let no : ⊥ = omega (arith, eqb-true given 0 empty) in no)
      | inr same ↦ eqb-true given count same
    ]

pub side-wanted : (n : Network) (side : Option CutSide) (before after : List ℕ) → is_column n.nodes (length before) ≡ true
    → IsSideWanted (nat_lt 0 (length before)) n side → MarksIfSome side before after → MarksSideWanted n before after
side-wanted n side before after fits wanted marked = on (length before == 0) refl
  where
    want : (b : Bool) → nat_lt 0 (length before) ≡ b → IsSideWanted b n side
    want b e = subst (λ (b : Bool). IsSideWanted b n side) e wanted

    none : (side : Option CutSide) → IsSideWanted false n side → MarksIfSome side before after → after ≡ before
    none None unwanted kept = kept
    none (Some side) unwanted kept = absurd unwanted

    some : (side : Option CutSide) → IsSideWanted true n side → length before ≡ n.nodes → MarksIfSome side before after → MarksSide n after
    some None least long kept = absurd least
    some (Some side) least long kept = marks-network n side after least (kept.0 ∙ long) kept.1

    on : (b : Bool) → (length before == 0) ≡ b → MatchBool b (after ≡ before) (MarksSide n after)
    on true e = none side (want false (le-ltb 0 (length before) (omega (arith, eqb-true (length before) 0 e)))) marked
    on false e =
        let some-place : 0 < length before = omega (arith, eqb-false (length before) 0 e) in
        some side (want true (lt-ltb 0 (length before) some-place)) (column n.nodes (length before) fits some-place) marked
