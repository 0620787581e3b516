-- What a solution text says, line by line, and its end.
use Rattle.std.proofs.Common.{◌≡◌, ◌≢◌, ◌⊎◌, ◌≤◌, ◌^◌, ℕ, List, [], ◌∷◌, ◌++◌, Bool, true, false, Option, Some, None, Result, Ok, Err, MatchResult, refl}
use Rattle.std.proofs.Common.{ap, ◌∙◌, inl, inr, arith, codes, pos}
use Rattle.std.proofs.lemmas.Bool.{false_from_ne_true}
use Rattle.std.proofs.lemmas.Bool.Decides.{Decides-int_eq}
use Rattle.std.proofs.lemmas.Int.{ints}
use Rattle.std.specs.Option.{option_map, option_or}
use Rattle.std.specs.Ordering.{int_eq}
use Rattle.std.specs.Result.{IsErrOf}
use Rattle.std.specs.Prelude.{int_lt, if◌then◌else◌}
use Rattle.dmf_state.specs.declared.arc.Arc.{Arc}
use Rattle.dmf_state.specs.declared.fault.FlowFault.{FlowFault}
use Rattle.dmf_state.specs.declared.fault.FlowFault.TheVariants as fault
use Rattle.dmf_state.specs.Flow.{flow_value, IsFlow}
use Rattle.dmf_state.specs.FlowFault.{first_unbalanced, flow_fault}
use Rattle.dmf_state.proofs.FlowFaults.{below-told, none-over, none-unbalanced}
use Rattle.dmf_state.specs.NetworkState.{NetworkState, with_flows}
use Rattle.dmf_text.specs.declared.fault.SolutionFaultKind.{SolutionFaultKind}
use Rattle.dmf_text.specs.declared.fault.SolutionFaultKind.TheVariants.{NoMemory, NoSuchPair, ValueDiffers}
use Rattle.dmf_text.specs.declared.solution_reading.SolutionReading.{SolutionReading}
use Rattle.dmf_text.specs.Numbers.{AreSpelled}
use Rattle.dmf_text.specs.Judging.{Line}
use Rattle.dmf_text.specs.Solution.{Facts, facts_of, value_in, flow_in, flow_fits, judged_flow, put_on, ended}
use Rattle.dmf_text.specs.SolutionReading.{flow_kind, known_of, AddsFlow, CannotAdd, Keeps, with_line, TakesSolutionLine}
use Rattle.dmf_text.proofs.JudgingLemmas.{or-none, first_fact-push, filter_map-push}
use Rattle.dmf_text.proofs.PairLemmas.{keeps-added, fits-good, fits-bad, none-large, put-within}

-- ---- lines

-- what lines say, and one more line
pub facts_of-push : (lines : List Line) (line : Line) → facts_of (lines ++ line ∷ []) ≡ with_line (facts_of lines) line
facts_of-push lines line = λ i. record {
  value = first_fact-push value_in lines line i;
  flows = filter_map-push flow_in lines line i;
}

-- a flow line with these numbers, by the result of adding its flow
module _ (arcs : List Arc) (facts : Facts) (reading : SolutionReading) (behind : List (List ℕ)) (tail head flow : ℕ)
    (three : AreSpelled behind tail head flow) (kept : Keeps arcs facts reading) where
  line-judged : judged_flow arcs facts behind ≡ flow_fits arcs facts (tail, head) flow
  unfolding judged_flow
  line-judged = rw (three.are, three.first_is, three.second_is, three.third_is) refl

  line-says : with_line facts (codes "f" ∷ behind) ≡ record facts { flows = facts.flows ++ ((tail, head), flow) ∷ [] }
  line-says = rw (three.are, three.first_is, three.second_is, three.third_is, or-none) refl

  -- The flow was added, or the line has the fault.
  pub line-taken : (now : SolutionReading) → now.value ≡ reading.value → (result : Result (Unit {0}) SolutionFaultKind)
      → MatchResult result (λ _. AddsFlow reading.pairs (tail, head) flow now.pairs) (CannotAdd (known_of reading.pairs (tail, head)) flow)
      → TakesSolutionLine arcs facts (codes "f" ∷ behind) (judged_flow arcs facts behind) now result
  line-taken now value (Ok done) added = (
    line-judged ∙ fits-good arcs facts reading.pairs now.pairs (tail, head) flow kept.pairs added,
    rw line-says
        (record {
          ends = kept.ends;
          value = value ∙ kept.value;
          pairs = keeps-added arcs facts reading.pairs now.pairs (tail, head) flow kept.pairs added;
        }),
  )
  line-taken now value (Err kind) cannot = line-judged ∙ fits-bad arcs facts reading.pairs (tail, head) flow kind kept.pairs cannot

  -- A number of more than 32 bits is no node, so no arc's pair has it.
  pub line-unknown : (2 ^ 32 ≤ tail) ⊎ (2 ^ 32 ≤ head) → judged_flow arcs facts behind ≡ Err NoSuchPair
  line-unknown large = line-judged ∙ rw (none-large arcs (tail, head) kept.ends large) refl

-- ---- the end

module _ (s : NetworkState) (facts : Facts) (value : ℕ) (told : facts.value ≡ Some value) where
  abbrev flows : List ℕ
  flows = put_on facts.flows s.network.arcs

  -- another value
  pub ended-differs : IsFlow s.network flows → flow_value s.network flows ≢ pos value → Err ValueDiffers ≡ ended s facts
  unfolding ended
  ended-differs flow differs =
      rw (
        told,
        none-unbalanced s.network flows flow,
        false_from_ne_true _ (λ same. differs ((Decides-int_eq (flow_value s.network flows) (pos value)).0 same)),
      ) refl

  -- no fault
  pub ended-good : IsFlow s.network flows → flow_value s.network flows ≡ pos value → Ok (with_flows s flows) ≡ ended s facts
  unfolding ended
  ended-good flow same =
      rw (told, none-unbalanced s.network flows flow, (Decides-int_eq (flow_value s.network flows) (pos value)).1 same) refl

  -- If the state refuses the flows, the text has the fault that was found in them, and none is over capacity.
  refused-by : (why : FlowFault) (unbalanced : Option ℕ) (negative : Bool) → first_unbalanced s.network flows ≡ unbalanced → int_lt (flow_value s.network flows)
      (pos 0) ≡ negative
      → Some why ≡ option_or (option_map fault.NotConserved unbalanced) (if negative then Some fault.Negative else None) → Err (flow_kind why) ≡ ended s facts
  unfolding ended
  refused-by why (Some v) negative found less fault_is =
      let is : why ≡ fault.NotConserved v = cc in
      rw (is, told, found) refl
  refused-by why None true found less fault_is =
      let is : why ≡ fault.Negative = cc in
      let below = below-told (flow_value s.network flows) less in
      let other : int_eq (flow_value s.network flows) (pos value) ≡ false =
      false_from_ne_true _ (λ same. let equal = (Decides-int_eq (flow_value s.network flows) (pos value)).0 same in omega (arith, ints, below, equal)) in
      rw (is, told, found, other) refl
  refused-by why None false found less fault_is = absurd (cc)

  -- A flow that is refused is refused at the end of the text.
  pub ended-refused : (why : FlowFault) → IsErrOf {T = NetworkState} (Err why) fault.NoMemory ⊎ (Some why ≡ flow_fault s.network flows)
      → (flow_kind why ≡ NoMemory) ⊎ (Err (flow_kind why) ≡ ended s facts)
  ended-refused why (inl memory) = inl (let is : why ≡ fault.NoMemory = cc in ap flow_kind is)
  ended-refused why (inr fault_is) =
      inr (refused-by why (first_unbalanced s.network flows) (int_lt (flow_value s.network flows) (pos 0)) refl refl
      (rw (none-over s.network.arcs flows (put-within facts.flows [] s.network.arcs)) at fault_is))
