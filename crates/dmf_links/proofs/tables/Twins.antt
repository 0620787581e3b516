-- Pairs with the same ends as some links can take over their places, and have their rooms put there.
use Rattle.std.proofs.Common.{ℕ, ◌≡◌, ◌≢◌, ◌+◌, ◌<◌, List, [], ◌∷◌, length, map, get_or, Option, Some, None, refl, ap, sym, ◌∙◌, inl, inr, arith}
use Rattle.std.specs.List.{slice_get}
use Rattle.std.proofs.lemmas.Bool.{cases_eq, cases_lt, eq-eqb, ne_eqb, cond-true, cond-false}
use Rattle.std.proofs.lemmas.List.{ext_get_or, get_or-map, length-map}
use Rattle.std.proofs.lemmas.Option.{none-some, same_Some, slice_get-get_or, get_or_from_slice_get}
use Rattle.dmf_links.specs.declared.pair.Pair.{Pair}
use Rattle.dmf_links.specs.Pair.{ArePairs, without_room}
use Rattle.dmf_links.specs.Links.{Links, AreLinks, ArePlaces, AreRooms, IsOf, IsSpare, no_place, tail_of, pair_at, pairs_at}
use Rattle.dmf_links.specs.Building.{HaveOwnPlaces, ArePut}
use Rattle.dmf_links.proofs.building.Counting.{some-within}
use Rattle.dmf_links.proofs.tables.LinkPlaces.{partner-other}
use Rattle.dmf_links.proofs.rooms.PairRead.{its-pair}

-- the places of the opposite links
abbrev pub opposites_of : Links → List ℕ → List ℕ
opposites_of l places = map (λ place. get_or l.partners place 0) places

-- The pairs have the ends of the links at these places.
abbrev pub HaveEnds : Links → List ℕ → List (Option Pair) → Type 0
HaveEnds l places pairs = map without_room pairs ≡ pairs_at l places []

-- Pairs keep their ends, whatever rooms they have.
emptied-pair : (l : Links) (rooms : List ℕ) (place : ℕ) → without_room (pair_at l rooms place) ≡ pair_at l [] place
emptied-pair l rooms place = elim (cases_eq place no_place) [
  | inl none ↦ rw (eq-eqb place no_place none) refl
  | inr other ↦ rw (ne_eqb place no_place other) refl
]

-- Without their rooms, the pairs at places are the same whatever the rooms are.
pub emptied-pairs : (l : Links) (places rooms : List ℕ) → map without_room (pairs_at l places rooms) ≡ pairs_at l places []
emptied-pairs l [] rooms = refl
emptied-pairs l (place ∷ places) rooms = λ i. emptied-pair l rooms place i ∷ emptied-pairs l places rooms i

-- the link at a place, without room
abbrev empty_at : Links → ℕ → Pair
empty_at l place = record {
  tail = tail_of l place;
  head = get_or l.heads place 0;
  along = get_or [] place 0;
  against = get_or [] (get_or l.partners place 0) 0;
}

record HasEnds (l : Links) (place : ℕ) (p : Pair) : Type 0 where
  there : place ≢ no_place
  tail : tail_of l place ≡ p.tail
  head : get_or l.heads place 0 ≡ p.head

ends-some : (l : Links) (place : ℕ) (p : Pair) → without_room (Some p) ≡ pair_at l [] place → HasEnds l place p
ends-some l place p same =
    let empty : Pair = record { tail = p.tail; head = p.head; along = 0; against = 0 } in
    elim (cases_eq place no_place) [
      | inl none ↦ absurd (none-some empty (sym (same ∙ cond-true _ _ _ (eq-eqb place no_place none))))
      | inr other ↦
          let is : empty ≡ empty_at l place = same_Some empty (empty_at l place) (same ∙ cond-false _ _ _ (ne_eqb place no_place other)) in
          record { there = other; tail = sym (ap (λ (q : Pair). q.tail) is); head = sym (ap (λ (q : Pair). q.head) is) }
    ]

ends-none : (l : Links) (place : ℕ) → without_room None ≡ pair_at l [] place → place ≡ no_place
ends-none l place same = elim (cases_eq place no_place) [
  | inl none ↦ none
  | inr other ↦ absurd (none-some (empty_at l place) (same ∙ cond-false _ _ _ (ne_eqb place no_place other)))
]

-- A pair has a place and the place of its opposite.
pub record IsAt (l : Links) (places : List ℕ) (j : ℕ) : Type 0 where
  pub index : j < length places
  pub there : get_or places j 0 ≢ no_place
  pub within : get_or places j 0 < length l.heads
  pub opposite : get_or (opposites_of l places) j 0 ≡ get_or l.partners (get_or places j 0) 0
  pub partner : get_or l.partners (get_or places j 0) 0 < length l.heads

module _ (l : Links) (places : List ℕ) (pairs : List (Option Pair)) where
  -- There is a place for each pair,
  one_place-each : HaveEnds l places pairs → length places ≡ length pairs
  one_place-each same =
      sym (length-map places (pair_at l [])) ∙ ap (λ (ps : List (Option Pair)). length ps) (sym same) ∙ length-map pairs without_room

  -- and each pair has the ends of the link there.
  emptied-at : (k : ℕ) (o : Option Pair) → HaveEnds l places pairs → k < length pairs → get_or pairs k None ≡ o → without_room o ≡ pair_at l [] (get_or places k 0)
  emptied-at k o same within is =
      ap without_room (sym is)
      ∙ sym (get_or-map without_room pairs k None None within)
      ∙ ap (λ (ps : List (Option Pair)). get_or ps k None) same
      ∙ get_or-map (pair_at l []) places k 0 None (omega (arith, within, one_place-each same))

  is-at : (j : ℕ) (p : Pair) → AreLinks l → ArePlaces l places → HaveEnds l places pairs → get_or pairs j None ≡ Some p → IsAt l places j
  is-at j p links are same is =
      let within = some-within pairs j p is in
      let index : j < length places = omega (arith, within, one_place-each same) in
      let ends = ends-some l (get_or places j 0) p (emptied-at j (Some p) same within is) in
      let below = are.within j index ends.there in
      record {
        index = index;
        there = ends.there;
        within = below;
        opposite = get_or-map (λ place. get_or l.partners place 0) places j 0 0 index;
        partner = (links.each (get_or places j 0) below).partner;
      }

  -- The pair that is read is that at its place.
  pub is-read : (k : ℕ) (p : Pair) → AreLinks l → ArePlaces l places → HaveEnds l places pairs → slice_get pairs k ≡ Some (Some p) → IsAt l places k
  is-read k p links are same read = is-at k p links are same (get_or_from_slice_get pairs k (Some p) None read)

  -- No two pairs share a link.
  pub apart-ends : AreLinks l → ArePlaces l places → HaveEnds l places pairs → HaveOwnPlaces (length l.heads) pairs places (opposites_of l places)
  apart-ends links are same =
      let long = one_place-each same in
      let at : (j : ℕ) (p : Pair) → get_or pairs j None ≡ Some p → IsAt l places j = λ j p is. is-at j p links are same is in
      record {
        places_long = long;
        opposites_long = length-map places (λ place. get_or l.partners place 0) ∙ long;
        along_within = λ j p is. (at j p is).within;
        against_within = λ j p is. let a = at j p is in omega (arith, a.opposite, a.partner);
        along = λ j k p q its is other meet.
            let a = at j p its in
            let b = at k q is in
            other (are.one (get_or places j 0) j k a.within (a.index, a.there, inl refl) (b.index, b.there, inl (sym meet)));
        against = λ j k p q its is other meet.
            let a = at j p its in
            let b = at k q is in
            other (are.one (get_or l.partners (get_or places j 0) 0) j k a.partner (a.index, a.there, inr refl)
            (b.index, b.there, inr (sym b.opposite ∙ sym meet ∙ a.opposite)));
        crossed = λ j k p q its is meet.
            let a = at j p its in
            let b = at k q is in
            let e = are.one (get_or places j 0) j k a.within (a.index, a.there, inl refl) (b.index, b.there, inr (sym b.opposite ∙ sym meet)) in
            partner-other l (get_or places k 0) links b.within (sym b.opposite ∙ sym meet ∙ ap (λ i. get_or places i 0) e);
      }

-- After its rooms are put there, the pair at the place of a pair is that pair,
pair-put : (l : Links) (places rooms : List ℕ) (pairs : List (Option Pair)) (k : ℕ) (o : Option Pair) → AreLinks l → ArePlaces l places
    → HaveEnds l places pairs
    → ArePut pairs places (opposites_of l places) (λ j p. p.along) (λ j p. p.against) (length pairs) rooms → k < length pairs → get_or pairs k None ≡ o
    → pair_at l rooms (get_or places k 0) ≡ o
pair-put l places rooms pairs k None links are same put within is =
    cond-true _ _ _ (eq-eqb (get_or places k 0) no_place
    (ends-none l (get_or places k 0) (emptied-at l places pairs k None same within is)))
pair-put l places rooms pairs k (Some p) links are same put within is =
    let ends = ends-some l (get_or places k 0) p (emptied-at l places pairs k (Some p) same within is) in
    let a = is-at l places pairs k p links are same is in
    let both = put k p within is in
    let against : get_or rooms (get_or l.partners (get_or places k 0) 0) 0 ≡ p.against = ap (λ q. get_or rooms q 0) (sym a.opposite) ∙ both.1 in
    cond-false _ _ _ (ne_eqb (get_or places k 0) no_place ends.there)
    ∙ λ i. Some (record { tail = ends.tail i; head = ends.head i; along = both.0 i; against = against i })

-- so these are the pairs.
pub pairs-put : (l : Links) (places rooms : List ℕ) (pairs : List (Option Pair)) → AreLinks l → ArePlaces l places → HaveEnds l places pairs
    → ArePut pairs places (opposites_of l places) (λ j p. p.along) (λ j p. p.against) (length pairs) rooms → pairs_at l places rooms ≡ pairs
pairs-put l places rooms pairs links are same put =
    let one_each = one_place-each l places pairs same in
    let long : length (pairs_at l places rooms) ≡ length pairs = length-map places (pair_at l rooms) ∙ one_each in
    ext_get_or None (pairs_at l places rooms) pairs long
    (λ k h.
    let within : k < length pairs = omega (arith, h, long) in
    get_or-map (pair_at l rooms) places k 0 None (omega (arith, within, one_each))
    ∙ pair-put l places rooms pairs k _ links are same put within refl)

-- Rooms of pairs fit 64 bits together.
pub rooms-pairs : (l : Links) (places rooms : List ℕ) (nodes : ℕ) (pairs : List (Option Pair)) → AreLinks l → ArePlaces l places
    → length rooms ≡ length l.heads → ((p : ℕ) → p < length l.heads → IsSpare l p → get_or rooms p 0 ≡ 0) → pairs_at l places rooms ≡ pairs
    → ArePairs nodes pairs → AreRooms l rooms
rooms-pairs l places rooms nodes pairs links are long none is all = (
  long,
  λ p h. elim (cases_lt p (get_or l.ends (tail_of l p + 1) 0)) [
    | inr spare ↦
        let link = links.each p h in
        omega (arith, none p h spare, none (get_or l.partners p 0) link.partner (link.partner_spare spare))
    | inl used ↦
        let found = are.each p h (λ spare. omega (arith, spare, used)) in
        let k = found.0 in
        let of : IsOf l places p k = found.1 in
        let place = get_or places k 0 in
        let read = sym (ap (λ (ps : List (Option Pair)). get_or ps k None) is) ∙ its-pair l places rooms k place of.0 (record { is = refl; there = of.1 }) in
        let long : length places ≡ length pairs = sym (length-map places (pair_at l rooms)) ∙ ap (λ (ps : List (Option Pair)). length ps) is in
        let pair = all.each k _ (slice_get-get_or pairs k None (omega (arith, of.0, long)) ∙ ap (λ (o : Option Pair). Some o) read) in
        let link = links.each place (are.within k of.0 of.1) in
        elim of.2 [
          | inl own ↦ omega (arith, pair.fits, ap (λ q. get_or rooms q 0) own, ap (λ q. get_or rooms (get_or l.partners q 0) 0) own)
          | inr opposite ↦
              let back : place ≡ get_or l.partners p 0 = sym link.partner_back ∙ ap (λ q. get_or l.partners q 0) opposite in
              omega (arith, pair.fits, ap (λ q. get_or rooms q 0) opposite, ap (λ q. get_or rooms q 0) back)
        ]
  ],
  none,
)
