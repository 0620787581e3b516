-- Taking an amount off the room of one link.
use Rattle.std.proofs.Common.{ℕ, ◌≡◌, ◌≢◌, ◌<◌, ◌≤◌, false, List, [], ◌∷◌, length, map, get_or, set, zero, suc, refl, ap, sym, ◌∙◌, arith, eq-eqb}
use Rattle.std.proofs.Common.{get_or-set_other, get_or-set_same, inl, inr, subst, Option, Some, None}
use Rattle.std.specs.Option.{option_map}
use Rattle.std.proofs.lemmas.Option.{slice_get_within, get_or_from_slice_get, same_Some}
use Rattle.std.proofs.lemmas.Bool.{cases_eq, ne_eqb}
use Rattle.std.proofs.lemmas.List.{get_or-map, length-map}
use Rattle.dmf_links.specs.declared.pair.Pair.{Pair}
use Rattle.dmf_links.specs.Links.{Links, AreLinks, ArePlaces, IsOf, no_place, tail_of, pair_at, pairs_at}
use Rattle.dmf_path.specs.Walk.{pushed_once}
use Rattle.dmf_path.specs.Search.{HasAlong, lowered_pair, lowered_along}
use Rattle.dmf_links.proofs.tables.LinkPlaces.{partner-other}
use Rattle.dmf_path.proofs.rooms.PushedPairs.{pair-rooms}

-- what HasAlong says of the place
pub record HasPlace (l : Links) (places rooms : List ℕ) (k amount : ℕ) : Type 0 where
  pub index : k < length places
  pub there : get_or places k 0 ≢ no_place
  pub within : get_or places k 0 < length l.heads
  pub enough : amount ≤ get_or rooms (get_or places k 0) 0

-- the place of a pair that exists
pub HasPlace-along : {l : Links} {places : List ℕ} (rooms : List ℕ) {k amount : ℕ} → ArePlaces l places → HasAlong (pairs_at l places rooms) k amount
    → HasPlace l places rooms k amount
HasPlace-along {l} {places} rooms {k} are has =
    let found = slice_get_within (pairs_at l places rooms) k (Some has.pair) has.is in
    let index : k < length places = omega (arith, found, length-map places (pair_at l rooms)) in
    let same : pair_at l rooms (get_or places k 0) ≡ Some has.pair = sym (get_or-map (pair_at l rooms) places k 0 None index) ∙ get_or_from_slice_get
    (pairs_at l places rooms) k (Some has.pair) None has.is in
    elim (cases_eq (get_or places k 0) no_place) [
      | inl none ↦ let nothing = rw (eq-eqb (get_or places k 0) no_place none) at same in absurd (cc)
      | inr there ↦
          let some = rw (ne_eqb (get_or places k 0) no_place there) at same in
          let room : get_or rooms (get_or places k 0) 0 ≡ has.pair.along = ap (λ p. p.along) (same_Some _ has.pair some) in
          record { index = index; there = there; within = are.within k index there; enough = omega (arith, has.enough, room) }
    ]

-- functions that agree on each element of a list
same-map : {X : Type 0} (f g : ℕ → X) (qs : List ℕ) → ((j : ℕ) → j < length qs → f (get_or qs j 0) ≡ g (get_or qs j 0)) → map f qs ≡ map g qs
same-map f g [] same = refl
same-map f g (q ∷ qs) same =
    let first : f q ≡ g q = same 0 (omega arith) in
    let rest : map f qs ≡ map g qs = same-map f g qs (λ j h. same (suc j) (omega (arith, h))) in
    λ i. first i ∷ rest i

-- one element of a list is another
map-set : {X : Type 0} (f g : ℕ → X) (qs : List ℕ) (k : ℕ) {x : X} → k < length qs → f (get_or qs k 0) ≡ x
    → ((j : ℕ) → j < length qs → j ≢ k → f (get_or qs j 0) ≡ g (get_or qs j 0)) → map f qs ≡ set (map g qs) k x
map-set f g [] k within here others = absurd (omega (arith, within))
map-set f g (q ∷ qs) zero within here others =
    let rest : map f qs ≡ map g qs = same-map f g qs (λ j h. others (suc j) (omega (arith, h)) (λ e. omega (arith, e))) in
    λ i. here i ∷ rest i
map-set f g (q ∷ qs) (suc k) {x} within here others =
    let first : f q ≡ g q = others 0 (omega arith) (λ e. omega (arith, e)) in
    let rest : map f qs ≡ set (map g qs) k x = map-set f g qs k (omega (arith, within)) here
    (λ j h apart. others (suc j) (omega (arith, h)) (λ e. apart (omega (arith, e)))) in
    λ i. first i ∷ rest i

-- Other rooms of one pair's links change that pair alone.
pub pairs-changed : {l : Links} {places : List ℕ} (rooms after : List ℕ) (k : ℕ) {x : Option Pair} → AreLinks l → ArePlaces l places → k < length places
    → get_or places k 0 ≢ no_place → ((q : ℕ) → q ≢ get_or places k 0 → q ≢ get_or l.partners (get_or places k 0) 0 → get_or after q 0 ≡ get_or rooms q 0)
    → pair_at l after (get_or places k 0) ≡ x → pairs_at l places after ≡ set (pairs_at l places rooms) k x
pairs-changed {l} {places} rooms after k links are index there same own =
    let p : ℕ = get_or places k 0 in
    let within : p < length l.heads = are.within k index there in
    map-set (pair_at l after) (pair_at l rooms) places k index own (λ j h apart. elim (cases_eq (get_or places j 0) no_place) [
      | inl none ↦ rw (eq-eqb (get_or places j 0) no_place none) refl
      | inr some ↦
          let q : ℕ = get_or places j 0 in
          let stays : (s : ℕ) → IsOf l places s j → get_or after s 0 ≡ get_or rooms s 0 = λ s of. same s
          (λ e. apart (are.one p j k within (subst (λ u. IsOf l places u j) e of) (index, there, inl refl)))
          (λ e. apart (are.one (get_or l.partners p 0) j k (links.each p within).partner (subst (λ u. IsOf l places u j) e of) (index, there, inr refl))) in
          rw (ne_eqb q no_place some)
          (pair-rooms (tail_of l q) (get_or l.heads q 0) (stays q (h, some, inl refl)) (stays (get_or l.partners q 0) (h, some, inr refl)))
    ])

-- The pairs after the room of one link along is lowered.
pub pairs-lowered : {l : Links} {places rooms : List ℕ} {k amount : ℕ} → AreLinks l → ArePlaces l places → length rooms ≡ length l.heads
    → HasPlace l places rooms k amount →
    pairs_at l places (pushed_once l false amount (get_or places k 0) rooms) ≡ lowered_along (pairs_at l places rooms) k amount
pairs-lowered {l} {places} {rooms} {k} {amount} links are long has =
    let p : ℕ = get_or places k 0 in
    let before : get_or (pairs_at l places rooms) k None ≡ pair_at l rooms p = get_or-map (pair_at l rooms) places k 0 None has.index in
    pairs-changed rooms (pushed_once l false amount p rooms) k {x = option_map (lowered_pair amount) (get_or (pairs_at l places rooms) k None)} links are
    has.index has.there (λ q apart beside. get_or-set_other rooms p q _ 0 apart)
    (rw (before, ne_eqb p no_place has.there) (pair-rooms (tail_of l p) (get_or l.heads p 0) (get_or-set_same rooms p _ 0 (omega (arith, has.within, long)))
    (get_or-set_other rooms p (get_or l.partners p 0) _ 0 (partner-other l p links has.within))))
