-- Flows without the flow on some arcs.
use Rattle.std.proofs.Common.{ℕ, ◌≡◌, ◌≢◌, ◌+◌, ◌-◌, ◌<◌, ◌≤◌, List, [], ◌∷◌, length, get_or, set, take, zero, suc, refl, sym, ◌∙◌, subst, arith}
use Rattle.std.proofs.Common.{⊎_elim, Result, Ok, Err}
use Rattle.std.specs.List.Sorted.{IsSearchInRange, IsBinarySearchResult, IsNonDecreasingBy}
use Rattle.std.specs.Ordering.{nat_cmp, ordering_index}
use Rattle.std.specs.Prelude.{MatchResult}
use Rattle.std.proofs.Math.Numerals.{add-one}
use Rattle.std.proofs.lemmas.Bool.{cases_lt, cases_eq}
use Rattle.std.proofs.lemmas.Bool.Decides.{nat_tests}
use Rattle.std.proofs.lemmas.Cmp.{ranked}
use Rattle.std.proofs.lemmas.List.{get_or_past, get_or-set_same, get_or-set_other, length-set}
use Rattle.std.proofs.lemmas.List.Sorted.{IsNonDecreasingBy-from_default}
use Rattle.dmf_state.specs.declared.edit.Shutting.{Shutting}
use Rattle.dmf_state.specs.Edit.{AreOpenWith}
use Rattle.dmf_state.specs.Network.{Network}
use Rattle.dmf_state.proofs.ClosedArcs.{no_shutting}
use Rattle.dmf_solver.specs.Pairs.{flows_without}

-- ---- the numbers of the arcs ascend

-- the number of the arc at an index
abbrev number_at : List Shutting → ℕ → ℕ
number_at arcs i = (get_or arcs i no_shutting).arc

past-first : (last : ℕ) (arcs : List Shutting) (n : Network) (i : ℕ) → AreOpenWith last arcs n → i < length arcs → last < number_at arcs i
past-first last [] n i are h = absurd (omega (arith, h))
past-first last (a ∷ arcs) n zero are h = are.0
past-first last (a ∷ arcs) n (suc i) are h = omega (arith, are.0, past-first a.arc arcs n i are.2 (omega (arith, h)))

ascend : (last : ℕ) (arcs : List Shutting) (n : Network) (i j : ℕ) → AreOpenWith last arcs n → i ≤ j → j < length arcs → number_at arcs i ≤ number_at arcs j
ascend last [] n i j are order h = absurd (omega (arith, h))
ascend last (a ∷ arcs) n zero zero are order h = omega arith
ascend last (a ∷ arcs) n zero (suc j) are order h = omega (arith, past-first a.arc arcs n j are.2 (omega (arith, h)))
ascend last (a ∷ arcs) n (suc i) zero are order h = absurd (omega (arith, order))
ascend last (a ∷ arcs) n (suc i) (suc j) are order h = ascend a.arc arcs n i j are.2 (omega (arith, order)) (omega (arith, h))

-- ---- the flows

-- There are as many,
pub length-emptied : (arcs : List Shutting) (flows : List ℕ) → length (flows_without arcs flows) ≡ length flows
length-emptied [] flows = refl
length-emptied (a ∷ arcs) flows = length-emptied arcs (set flows (a.arc - 1) 0) ∙ length-set flows (a.arc - 1) 0

set-zero : (flows : List ℕ) (k : ℕ) → get_or (set flows k 0) k 0 ≡ 0
set-zero flows k = ⊎_elim
    (λ (within : k < length flows). get_or-set_same flows k 0 0 within)
    (λ (past : length flows ≤ k). get_or_past (set flows k 0) k 0 (omega (arith, past, length-set flows k 0)))
    (cases_lt k (length flows))

stays-zero : (arcs : List Shutting) (flows : List ℕ) (k : ℕ) → get_or flows k 0 ≡ 0 → get_or (flows_without arcs flows) k 0 ≡ 0
stays-zero [] flows k none = none
stays-zero (a ∷ arcs) flows k none = stays-zero arcs (set flows (a.arc - 1) 0) k (⊎_elim
    (λ (here : k ≡ a.arc - 1). rw here (set-zero flows (a.arc - 1)))
    (λ (other : k ≢ a.arc - 1). get_or-set_other flows (a.arc - 1) k 0 0 other ∙ none)
    (cases_eq k (a.arc - 1)))

-- none is on these arcs,
emptied-at : (arcs : List Shutting) (flows : List ℕ) (i : ℕ) → i < length arcs → get_or (flows_without arcs flows) (number_at arcs i - 1) 0 ≡ 0
emptied-at [] flows i h = absurd (omega (arith, h))
emptied-at (a ∷ arcs) flows zero h = stays-zero arcs (set flows (a.arc - 1) 0) (a.arc - 1) (set-zero flows (a.arc - 1))
emptied-at (a ∷ arcs) flows (suc i) h = emptied-at arcs (set flows (a.arc - 1) 0) i (omega (arith, h))

-- and the others stay.
emptied-other : (arcs : List Shutting) (flows : List ℕ) (k : ℕ) → ((i : ℕ) → i < length arcs → k ≢ number_at arcs i - 1)
    → get_or (flows_without arcs flows) k 0 ≡ get_or flows k 0
emptied-other [] flows k others = refl
emptied-other (a ∷ arcs) flows k others =
    emptied-other arcs (set flows (a.arc - 1) 0) k (λ i h. others (suc i) (omega (arith, h)))
    ∙ get_or-set_other flows (a.arc - 1) k 0 0 (others 0 (omega arith))

-- With one arc more, its flow is 0 too,
emptied-suc : (arcs : List Shutting) (flows : List ℕ) (i : ℕ) → i < length arcs
    → flows_without (take (suc i) arcs) flows ≡ set (flows_without (take i arcs) flows) (number_at arcs i - 1) 0
emptied-suc [] flows i h = absurd (omega (arith, h))
emptied-suc (a ∷ arcs) flows zero h = refl
emptied-suc (a ∷ arcs) flows (suc i) h = emptied-suc arcs (set flows (a.arc - 1) 0) i (omega (arith, h))

pub emptied-next : (arcs : List Shutting) (flows : List ℕ) (i : ℕ) → i < length arcs
    → flows_without (take (i + 1) arcs) flows ≡ set (flows_without (take i arcs) flows) ((get_or arcs i no_shutting).arc - 1) 0
emptied-next arcs flows i h = rw (add-one i) (emptied-suc arcs flows i h)

-- which was there before.
pub emptied-before : (last : ℕ) (arcs : List Shutting) (n : Network) (flows : List ℕ) (i : ℕ) → AreOpenWith last arcs n → i < length arcs
    → get_or (flows_without (take i arcs) flows) ((get_or arcs i no_shutting).arc - 1) 0 ≡ get_or flows ((get_or arcs i no_shutting).arc - 1) 0
emptied-before last [] n flows i are h = absurd (omega (arith, h))
emptied-before last (a ∷ arcs) n flows zero are h = refl
emptied-before last (a ∷ arcs) n flows (suc i) are h =
    emptied-before a.arc arcs n (set flows (a.arc - 1) 0) i are.2 (omega (arith, h))
    ∙ get_or-set_other flows (a.arc - 1) (number_at arcs i - 1) 0 0
    (λ same. omega (arith, same, are.0, past-first a.arc arcs n i are.2 (omega (arith, h))))

-- A binary search for the number of an arc tells which of the two holds.
pub emptied-searched : (arcs : List Shutting) (n : Network) (flows : List ℕ) (k : ℕ) (r : Result ℕ ℕ) → AreOpenWith 0 arcs n
    → IsSearchInRange r (length arcs) → IsBinarySearchResult (λ a. nat_cmp a.arc (k + 1)) arcs r
    → MatchResult r (λ _. get_or (flows_without arcs flows) k 0 ≡ 0) (λ _. get_or (flows_without arcs flows) k 0 ≡ get_or flows k 0)
emptied-searched arcs n flows k (Ok i) are within found =
    let is : number_at arcs i ≡ k + 1 = ranked _ (k + 1) _ (sym (found no_shutting)) in
    let place : number_at arcs i - 1 ≡ k = omega (arith, is) in
    subst (λ j. get_or (flows_without arcs flows) j 0 ≡ 0) place (emptied-at arcs flows i within)
emptied-searched arcs n flows k (Err i) are within parts =
    let rise : IsNonDecreasingBy (λ a. ordering_index (nat_cmp a.arc (k + 1))) arcs =
    IsNonDecreasingBy-from_default (λ a. ordering_index (nat_cmp a.arc (k + 1))) arcs no_shutting (λ i j order h.
    let below : number_at arcs i ≤ number_at arcs j = ascend 0 arcs n i j are order h in
    grind (arith, nat_tests)) in
    let parted = parts rise in
    emptied-other arcs flows k (λ m h same. ⊎_elim
    (λ (before : m < i).
    let less : number_at arcs m < k + 1 = ranked _ (k + 1) _ (sym (parted.0 m no_shutting (omega arith) before)) in
    omega (arith, less, same, past-first 0 arcs n m are h))
    (λ (behind : i ≤ m).
    let more : k + 1 < number_at arcs m = ranked _ (k + 1) _ (sym (parted.1 m no_shutting behind h)) in
    omega (arith, more, same))
    (cases_lt m i))
