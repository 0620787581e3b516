-- What is read of a pair, by its place.
use Rattle.std.proofs.Common.{ℕ, ◌≡◌, ◌≢◌, ◌<◌, List, length, get_or, refl, ◌∙◌, Option, Some, None}
use Rattle.std.specs.Prelude.{MatchOption, IsSome}
use Rattle.std.proofs.lemmas.Bool.{ne_eqb}
use Rattle.std.proofs.lemmas.List.{get_or-map}
use Rattle.dmf_links.specs.Links.{Links, ArePlaces, IsPlaceOf, no_place, tail_of, pair_at, pairs_at}
use Rattle.dmf_links.specs.Pair.{pair_number}

-- The place of a pair is that of a link.
pub place-within : (l : Links) (places : List ℕ) (k place : ℕ) → ArePlaces l places → k < length places → IsPlaceOf places k place → place < length l.heads
place-within l places k place are index of = rw of.is (are.within k index (λ none. of.there (of.is ∙ none)))

-- A pair has the rooms of two links.
pub its-pair : (l : Links) (places rooms : List ℕ) (k place : ℕ) → k < length places → IsPlaceOf places k place
    → pair_number (pairs_at l places rooms) k ≡ Some (record {
      tail = tail_of l place;
      head = get_or l.heads place 0;
      along = get_or rooms place 0;
      against =
          get_or rooms (get_or l.partners place 0) 0;
    })
its-pair l places rooms k place index of =
    let same : pair_number (pairs_at l places rooms) k ≡ pair_at l rooms (get_or places k 0) = get_or-map (pair_at l rooms) places k 0 None index in
    rw of.is (same ∙ rw (ne_eqb (get_or places k 0) no_place (λ none. of.there (of.is ∙ none))) refl)

-- A pair that is there has a place.
pub has-place : (found : Option ℕ) (places : List ℕ) (k : ℕ) → MatchOption found (get_or places k 0 ≡ no_place) (IsPlaceOf places k)
    → get_or places k 0 ≢ no_place → IsSome found
has-place None places k none there = absurd (there none)
has-place (Some place) places k of there = refl
