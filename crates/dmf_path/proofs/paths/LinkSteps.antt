-- The steps of the pairs are the steps of the links with room.
use Rattle.std.proofs.Common.{ℕ, ◌≡◌, ◌≢◌, ◌+◌, ◌*◌, ◌<◌, List, [], ◌∷◌, length, get_or, Bool, true, false, cond, ltb, zero, suc, inl, inr, Some, Contains}
use Rattle.std.proofs.Common.{refl, ap, sym, ◌∙◌, arith}
use Rattle.std.proofs.lemmas.Bool.{cases_eq, ltb-true, lt-ltb, eq-eqb, ne_eqb}
use Rattle.std.proofs.lemmas.List.Elements.{Contains-append_left, Contains-append_right, Contains-append_cases}
use Rattle.dmf_links.specs.declared.pair.Pair.{Pair}
use Rattle.dmf_path.specs.Step.{Step}
use Rattle.dmf_path.specs.Pair.{pair_steps, steps_from, steps_of}
use Rattle.dmf_links.specs.Links.{Links, AreLinks, ArePlaces, IsSpare, no_place, tail_of, pair_at, pairs_at}
use Rattle.dmf_path.proofs.paths.Steps.{step_on}
use Rattle.dmf_path.proofs.paths.Ranks.{rank_of-along, rank_of-against}

-- the step along a pair, and the one against it
abbrev step_along : ℕ → Pair → Step
step_along j p = record { from = p.tail; to = p.head; rank = 2 * j; room = p.along }

abbrev step_against : ℕ → Pair → Step
step_against j p = record { from = p.head; to = p.tail; rank = 2 * j + 1; room = p.against }

-- The step is one of pair number `j`.
data IsStepOf (j : ℕ) (p : Pair) (s : Step) : Type 0 where
  along : 0 < p.along → step_along j p ≡ s → IsStepOf j p s
  against : 0 < p.against → step_against j p ≡ s → IsStepOf j p s

-- ---- one pair

in-optional : {A : Type 0} (b : Bool) (x y : A) → Contains (cond b (x ∷ []) []) y → (b ≡ true) × (x ≡ y)
in-optional true x y c = let first : c.0 ≡ 0 = omega (arith, c.1) in (refl, rw first at c.2)
in-optional false x y c = absurd (omega (arith, c.1))

optional-in : {A : Type 0} (b : Bool) (x : A) → b ≡ true → Contains (cond b (x ∷ []) []) x
optional-in b x e = rw e (0, omega arith, refl)

is_step_of : (j : ℕ) (p : Pair) (s : Step) → Contains (pair_steps j (Some p)) s → IsStepOf j p s
is_step_of j p s c = elim (Contains-append_cases (cond (ltb 0 p.along) (step_along j p ∷ []) []) (cond (ltb 0 p.against) (step_against j p ∷ []) []) s c) [
  | inl first ↦ let e = in-optional (ltb 0 p.along) (step_along j p) s first in along (ltb-true 0 p.along e.0) e.1
  | inr second ↦ let e = in-optional (ltb 0 p.against) (step_against j p) s second in against (ltb-true 0 p.against e.0) e.1
]

has_step_of : (j : ℕ) (p : Pair) (s : Step) → IsStepOf j p s → Contains (pair_steps j (Some p)) s
has_step_of j p s step =
    let first = cond (ltb 0 p.along) (step_along j p ∷ []) [] in
    let second = cond (ltb 0 p.against) (step_against j p ∷ []) [] in
    elim step [
      | along room is ↦ rw (← is) (Contains-append_left first second (step_along j p) (optional-in (ltb 0 p.along) (step_along j p) (lt-ltb 0 p.along room)))
      | against room is ↦ rw (← is) (Contains-append_right first second (step_against j p)
          (optional-in (ltb 0 p.against) (step_against j p) (lt-ltb 0 p.against room)))
    ]

-- ---- the pairs at places

-- the pair whose link along lies at place `q`
abbrev pair_of : Links → List ℕ → ℕ → Pair
pair_of l rooms q = record {
  tail = tail_of l q;
  head = get_or l.heads q 0;
  along = get_or rooms q 0;
  against = get_or rooms (get_or l.partners q 0) 0;
}

-- The step is one of the pair at index `index`.
record IsStepAt (l : Links) (rooms : List ℕ) (j : ℕ) (places : List ℕ) (s : Step) : Type 0 where
  index : ℕ
  within : index < length places
  has : get_or places index 0 ≢ no_place
  step : IsStepOf (j + index) (pair_of l rooms (get_or places index 0)) s

is_step_at : (l : Links) (rooms : List ℕ) (j : ℕ) (places : List ℕ) (s : Step) → Contains (steps_from j (pairs_at l places rooms)) s
    → IsStepAt l rooms j places s
is_step_at l rooms j [] s c = absurd (omega (arith, c.1))
is_step_at l rooms j (q ∷ places) s c =
    elim (Contains-append_cases (pair_steps j (pair_at l rooms q)) (steps_from (j + 1) (pairs_at l places rooms)) s c) [
      | inl own ↦ elim (cases_eq q no_place) [
        | inl none ↦ let c = rw (eq-eqb q no_place none) at own in absurd (omega (arith, c.1))
        | inr has ↦
            let number : j + 0 ≡ j = omega arith in
            record { index = 0; within = omega arith; has = has; step = rw number (is_step_of j (pair_of l rooms q) s (rw (ne_eqb q no_place has) at own)) }
      ]
      | inr later ↦
          let h = is_step_at l rooms (j + 1) places s later in
          let number : j + suc h.index ≡ j + 1 + h.index = omega arith in
          record { index = suc h.index; within = omega (arith, h.within); has = h.has; step = rw number h.step }
    ]

has_step_at : (l : Links) (rooms : List ℕ) (j : ℕ) (places : List ℕ) (k : ℕ) (s : Step) → k < length places → get_or places k 0 ≢ no_place
    → IsStepOf (j + k) (pair_of l rooms (get_or places k 0)) s → Contains (steps_from j (pairs_at l places rooms)) s
has_step_at l rooms j [] k s within has step = absurd (omega (arith, within))
has_step_at l rooms j (q ∷ places) zero s within has step =
    let number : j + 0 ≡ j = omega arith in
    Contains-append_left (pair_steps j (pair_at l rooms q)) (steps_from (j + 1) (pairs_at l places rooms)) s
    (rw (ne_eqb q no_place has) (has_step_of j (pair_of l rooms q) s (rw number at step)))
has_step_at l rooms j (q ∷ places) (suc k) s within has step =
    let number : j + suc k ≡ j + 1 + k = omega arith in
    Contains-append_right (pair_steps j (pair_at l rooms q)) (steps_from (j + 1) (pairs_at l places rooms)) s
    (has_step_at l rooms (j + 1) places k s (omega (arith, within)) has (rw number at step))

-- ---- the links

-- The step is given by a link with room.
pub record IsLinkStep (l : Links) (places rooms : List ℕ) (s : Step) : Type 0 where
  pub place : ℕ
  pub within : place < length l.heads
  pub room : 0 < get_or rooms place 0
  pub step : step_on l places rooms place ≡ s

module _ (l : Links) (places rooms : List ℕ) (links : AreLinks l) (are : ArePlaces l places) where
  -- the step along the pair at index `k`
  along-is : (k : ℕ) → k < length places → get_or places k 0 ≢ no_place
      → step_on l places rooms (get_or places k 0) ≡ step_along (1 + k) (pair_of l rooms (get_or places k 0))
  along-is k within has =
      let q : ℕ = get_or places k 0 in
      rw (rank_of-along l places q k are (are.within k within has) within has refl) refl

  -- the step against the pair at index `k`
  against-is : (k : ℕ) → k < length places → get_or places k 0 ≢ no_place
      → step_on l places rooms (get_or l.partners (get_or places k 0) 0) ≡ step_against (1 + k) (pair_of l rooms (get_or places k 0))
  against-is k within has =
      let p : ℕ = get_or l.partners (get_or places k 0) 0 in
      let link = links.each (get_or places k 0) (are.within k within has) in
      rw (rank_of-against l places p k links are link.partner within has refl, link.partner_back) refl

  -- Each step of the pairs is given by a link with room.
  pub link-of_step : (s : Step) → Contains (steps_of (pairs_at l places rooms)) s → IsLinkStep l places rooms s
  link-of_step s c =
      let h = is_step_at l rooms 1 places s c in
      let within = are.within h.index h.within h.has in
      elim h.step [
        | along room is ↦ record { place = _; within = within; room = room; step = along-is h.index h.within h.has ∙ is }
        | against room is ↦ record { place = _; within = (links.each _ within).partner; room = room; step = against-is h.index h.within h.has ∙ is }
      ]

  -- Each link with room that is not spare gives a step of the pairs.
  pub step-of_link : (p : ℕ) → p < length l.heads → ¬ IsSpare l p → 0 < get_or rooms p 0
      → Contains (steps_of (pairs_at l places rooms)) (step_on l places rooms p)
  step-of_link p within used room =
      let found = are.each p within used in
      let low = found.1.0 in
      let has = found.1.1 in
      let step : IsStepOf (1 + found.0) (pair_of l rooms (get_or places found.0 0)) (step_on l places rooms p) = elim found.1.2 [
        | inl is ↦ along (rw is room) (sym (along-is found.0 low has) ∙ ap (step_on l places rooms) is)
        | inr is ↦ against (rw is room) (sym (against-is found.0 low has) ∙ ap (step_on l places rooms) is)
      ] in
      has_step_at l rooms 1 places found.0 (step_on l places rooms p) low has step
