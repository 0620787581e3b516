-- Setting the rooms of one pair's links.
use Rattle.std.proofs.Common.{ℕ, ◌≡◌, ◌≢◌, ◌<◌, List, length, get_or, set, refl, ap, sym, ◌∙◌, arith, eq-eqb, get_or-set_other}
use Rattle.std.proofs.Common.{get_or-set_same, length-set, Option, None}
use Rattle.std.specs.Option.{option_map}
use Rattle.std.proofs.lemmas.Bool.{ne_eqb}
use Rattle.std.proofs.lemmas.List.{get_or-map, set-get_or}
use Rattle.dmf_links.specs.declared.pair.Pair.{Pair}
use Rattle.dmf_links.specs.Links.{Links, AreLinks, ArePlaces, no_place, tail_of, pair_at, pairs_at, rooms_set}
use Rattle.dmf_path.specs.Search.{pair_with, with_rooms}
use Rattle.dmf_links.proofs.tables.LinkPlaces.{partner-other}
use Rattle.dmf_path.proofs.rooms.Lowered.{pairs-changed}
use Rattle.dmf_path.proofs.rooms.PushedPairs.{pair-rooms}

-- the room of the link itself
set-own : {l : Links} (p along against : ℕ) (rooms : List ℕ) → AreLinks l → length rooms ≡ length l.heads → p < length l.heads
    → get_or (rooms_set l p along against rooms) p 0 ≡ along
set-own {l} p along against rooms links long within =
    get_or-set_other (set rooms p along) (get_or l.partners p 0) p against 0 (λ e. partner-other l p links within (sym e))
    ∙ get_or-set_same rooms p along 0 (omega (arith, long, within))

-- and that of its opposite
set-partner : {l : Links} (p along against : ℕ) (rooms : List ℕ) → AreLinks l → length rooms ≡ length l.heads → p < length l.heads
    → get_or (rooms_set l p along against rooms) (get_or l.partners p 0) 0 ≡ against
set-partner {l} p along against rooms links long within =
    get_or-set_same (set rooms p along) (get_or l.partners p 0) against 0 (omega (arith, long, (links.each p within).partner, length-set rooms p along))

-- The other rooms stay.
set-other : (l : Links) (p q along against : ℕ) (rooms : List ℕ) → q ≢ p → q ≢ get_or l.partners p 0
    → get_or (rooms_set l p along against rooms) q 0 ≡ get_or rooms q 0
set-other l p q along against rooms apart beside = get_or-set_other (set rooms p along)
    (get_or l.partners p 0) q against 0 beside ∙ get_or-set_other rooms p q along 0 apart

-- So the pair at this index has these rooms,
pub pairs-set : {l : Links} {places : List ℕ} (rooms : List ℕ) (k along against : ℕ) → AreLinks l → ArePlaces l places → length rooms ≡ length l.heads
    → k < length places → get_or places k 0 ≢ no_place
    → pairs_at l places (rooms_set l (get_or places k 0) along against rooms) ≡ with_rooms (pairs_at l places rooms) k along against
pairs-set {l} {places} rooms k along against links are long index there =
    let p : ℕ = get_or places k 0 in
    let within : p < length l.heads = are.within k index there in
    let before : get_or (pairs_at l places rooms) k None ≡ pair_at l rooms p = get_or-map (pair_at l rooms) places k 0 None index in
    pairs-changed rooms (rooms_set l p along against rooms) k {x = option_map (pair_with along against) (get_or (pairs_at l places rooms) k None)} links are
    index there (λ q apart beside. set-other l p q along against rooms apart beside)
    (rw (before, ne_eqb p no_place there) (pair-rooms (tail_of l p) (get_or l.heads p 0) (set-own p along against rooms links long within)
    (set-partner p along against rooms links long within)))

-- and if there is no pair, the rooms stay.
pub pairs-unset : (l : Links) (places rooms : List ℕ) (k along against : ℕ) → k < length places → get_or places k 0 ≡ no_place
    → with_rooms (pairs_at l places rooms) k along against ≡ pairs_at l places rooms
pairs-unset l places rooms k along against index none =
    let there : get_or (pairs_at l places rooms) k None ≡ None = get_or-map
    (pair_at l rooms) places k 0 None index ∙ rw (eq-eqb (get_or places k 0) no_place none) refl in
    ap (λ (o : Option Pair). set (pairs_at l places rooms) k (option_map (pair_with along against) o)) there
    ∙ ap (set (pairs_at l places rooms) k) (sym there)
    ∙ set-get_or (pairs_at l places rooms) k None
