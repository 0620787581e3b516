-- Draining the next arc, by the search or, if it is a self loop, in the list. A self loop has no pair, so the search stays as it is.
use Rattle.std.proofs.Common.{ℕ, ◌≡◌, ◌≢◌, ◌-◌, ◌<◌, ◌≤◌, true, List, [], ◌∷◌, ◌++◌, length, get_or, set, zero, suc, refl, ap, sym, ◌∙◌, subst, arith, ⊎_elim}
use Rattle.std.proofs.Common.{Option, eq-eqb}
use Rattle.std.proofs.lemmas.Bool.{cases_eq}
use Rattle.std.proofs.lemmas.List.{get_or-set_same, get_or-set_other, length-set, set-get_or}
use Rattle.std.proofs.lemmas.Slice.Zip.{AllZip-long}
use Rattle.dmf_path.specs.Search.{Searched}
use Rattle.dmf_path.specs.Touched.{IsTouched, KeepsUntouched}
use Rattle.dmf_state.specs.declared.arc.Arc.{Arc}
use Rattle.dmf_state.specs.Arc.{no_arc}
use Rattle.dmf_solver.specs.Drain.{Drains, value_or_zero}
use Rattle.dmf_solver.specs.Moves.{DrainsNext, UntouchedStay}
use Rattle.dmf_state.specs.Flow.{flow_on}
use Rattle.dmf_state.specs.Network.{Network, arc_number, has_arc}
use Rattle.dmf_state.specs.NetworkState.{NetworkState, with_flows}
use Rattle.dmf_solver.specs.CarryingNetwork.{carrying_pair, carrying_from, return_pair}
use Rattle.dmf_solver.specs.Pairs.{Along, Carries, IsCarryingSearch, flows_read}
use Rattle.dmf_state.proofs.ChangedArc.{has_arc-within}
use Rattle.dmf_state.proofs.Changing.{flow_at-set}
use Rattle.dmf_solver.proofs.kept.CarryingFollowed.{carries-made}
use Rattle.dmf_solver.proofs.draining.DrainedLoop.{drained-loop}
use Rattle.dmf_solver.proofs.draining.Draining.{drains-state}
use Rattle.dmf_solver.proofs.draining.DrainingSearch.{carries-read, IsCarryingSearch-from}
use Rattle.dmf_solver.proofs.draining.DrainingWalk.{drains-none}
use Rattle.dmf_solver.proofs.pairs.Untouched.{drained-stay}

-- The pairs of the arcs stay.
pairs-lowered : (arcs : List Arc) (flows : List ℕ) (k flow : ℕ) → (get_or arcs k no_arc).tail ≡ (get_or arcs k no_arc).head
    → carrying_from arcs (set flows k flow) ≡ carrying_from arcs flows
pairs-lowered [] flows k flow loop = refl
pairs-lowered (arc ∷ arcs) [] k flow loop = refl
pairs-lowered (arc ∷ arcs) (x ∷ flows) zero flow loop = rw (eq-eqb arc.tail arc.head loop) refl
pairs-lowered (arc ∷ arcs) (x ∷ flows) (suc k) flow loop = ap (λ pairs. carrying_pair arc x ∷ pairs) (pairs-lowered arcs flows k flow loop)

-- So does the inflow of the sink.
value-lowered : (n : Network) (flows : List ℕ) (k flow : ℕ) → length flows ≡ length n.arcs → k < length n.arcs
    → (get_or n.arcs k no_arc).tail ≡ (get_or n.arcs k no_arc).head → value_or_zero n (set flows k flow) ≡ value_or_zero n flows
value-lowered n flows k flow long within loop =
    let out = flow_at-set (λ a. a.tail) n.arcs flows k flow n.source long within in
    let into = rw (sym loop) at (flow_at-set (λ a. a.head) n.arcs flows k flow n.source long within) in
    omega (arith, out, into)

-- Taking the flow of a self loop down to 0, in the list, drains it.
pub drained-by_list : (s : NetworkState) (j : ℕ) (unpaired : List ℕ) (search : Searched) (touched : Option (List ℕ)) → has_arc s.network j ≡ true
    → (arc_number s.network j).tail ≡ (arc_number s.network j).head → IsCarryingSearch s unpaired search → 0 < flow_on unpaired j
    → IsTouched touched (j - 1) → DrainsNext s j unpaired touched search search
drained-by_list s j unpaired search touched has loop carries above own =
    let n : Network = s.network in
    let k : ℕ = j - 1 in
    let flows : List ℕ = flows_read Along unpaired search.pairs in
    let at = has_arc-within n j has in
    let long = AllZip-long _ n.arcs flows carries.state.flow.within in
    let here : get_or flows k 0 ≡ get_or unpaired k 0 = carries.loops k at.1 loop in
    let drains : Drains n j 0 flows (set flows k 0) = drained-loop n j 0 flows has carries.state.flow loop (omega (arith, above, here)) in
    let left = drains-state s j 0 flows (set flows k 0) carries.state has drains in
    let value = value-lowered n flows k 0 long at.1 loop in
    let last : return_pair n (set flows k 0) ≡ return_pair n flows = rw value refl in
    let next : Carries s (set unpaired k 0) (set flows k 0) search = record {
      state = left.1;
      listed = length-set unpaired k 0 ∙ carries.listed;
      loops = λ i within back. ⊎_elim
          (λ (here : i ≡ k).
          let first = get_or-set_same flows k 0 0 (omega (arith, at.1, long)) in
          let second = get_or-set_same unpaired k 0 0 (omega (arith, at.1, carries.listed)) in
          rw here (first ∙ sym second))
          (λ (other : i ≢ k). get_or-set_other flows k i 0 0 other ∙ carries.loops i within back ∙ sym (get_or-set_other unpaired k i 0 0 other))
          (cases_eq i k);
      search_is = carries-made (with_flows s flows) (with_flows s (set flows k 0)) (value_or_zero n flows) (value_or_zero n (set flows k 0))
          (λ pairs. pairs) search search carries.search_is refl refl (λ i. sym (pairs-lowered n.arcs flows k 0 loop) i ++ sym last i ∷ []);
    } in
    let read = sym (carries-read s (set unpaired k 0) (set flows k 0) search next) in
    record {
      carrying = IsCarryingSearch-from s (set unpaired k 0) (set flows k 0) search next;
      drains = subst (Drains n j 0 flows) read drains;
      others_stay = subst (UntouchedStay touched flows) read
          (λ i untouched. sym (get_or-set_other flows k i 0 0 (λ (here : i ≡ k). untouched (subst (IsTouched touched) (sym here) own))));
    }

-- If nothing flows on it, it is drained already.
pub drained-in_list : (s : NetworkState) (j : ℕ) (unpaired : List ℕ) (search : Searched) (touched : Option (List ℕ)) → has_arc s.network j ≡ true
    → (arc_number s.network j).tail ≡ (arc_number s.network j).head → IsCarryingSearch s unpaired search → flow_on unpaired j ≤ 0
    → DrainsNext s j unpaired touched search search
drained-in_list s j unpaired search touched has loop carries none =
    let k : ℕ = j - 1 in
    let at = has_arc-within s.network j has in
    let here = carries.loops k at.1 loop in
    let empty : get_or unpaired k 0 ≡ 0 = omega (arith, none) in
    let same : set unpaired k 0 ≡ unpaired = subst (λ x. set unpaired k x ≡ unpaired) empty (set-get_or unpaired k 0) in
    let flows : List ℕ = flows_read Along unpaired search.pairs in
    record {
      carrying = subst (λ xs. IsCarryingSearch s xs search) (sym same) carries;
      drains = subst (λ xs. Drains s.network j 0 flows (flows_read Along xs search.pairs)) (sym same)
          (drains-none s.network j 0 flows (omega (arith, here, none)));
      others_stay = λ i untouched. ap (λ xs. get_or (flows_read Along xs search.pairs) i 0) (sym same);
    }

-- The list's number of an arc that is no self loop counts for nothing.
pub drained-by_search : (s : NetworkState) (j : ℕ) (unpaired : List ℕ) (old new : Searched) (touched : Option (List ℕ))
    → (arc_number s.network j).tail ≢ (arc_number s.network j).head → IsCarryingSearch s unpaired old → IsCarryingSearch s unpaired new
    → Drains s.network j 0 (flows_read Along unpaired old.pairs) (flows_read Along unpaired new.pairs) → KeepsUntouched touched old.pairs new.pairs
    → DrainsNext s j unpaired touched old new
drained-by_search s j unpaired old new touched apart begun carries drains keeps =
    let k : ℕ = j - 1 in
    let flows : List ℕ = flows_read Along unpaired new.pairs in
    let next : Carries s (set unpaired k 0) flows new = record {
      state = carries.state;
      listed = length-set unpaired k 0 ∙ carries.listed;
      loops = λ i within back.
          carries.loops i within back ∙ sym (get_or-set_other unpaired k i 0 0
          (λ (here : i ≡ k). apart (subst (λ i. (get_or s.network.arcs i no_arc).tail ≡ (get_or s.network.arcs i no_arc).head) here back)));
      search_is = carries.search_is;
    } in
    let read = sym (carries-read s (set unpaired k 0) flows new next) in
    record {
      carrying = IsCarryingSearch-from s (set unpaired k 0) flows new next;
      drains = subst (Drains s.network j 0 (flows_read Along unpaired old.pairs)) read drains;
      others_stay = subst (UntouchedStay touched (flows_read Along unpaired old.pairs)) read (drained-stay s unpaired old new touched begun carries keeps);
    }
