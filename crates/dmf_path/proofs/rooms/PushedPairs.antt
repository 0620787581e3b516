-- Pushing along a trail changes the pairs just as pushing along its path does.
use Rattle.std.proofs.Common.{ℕ, ◌≡◌, ◌≢◌, ◌+◌, ◌-◌, ◌*◌, ◌<◌, ◌==◌, Bool, true, false, cond, List, [], ◌∷◌, length, map, get_or, suc, refl, ap, sym, ◌∙◌}
use Rattle.std.proofs.Common.{subst, arith, eq-eqb, inl, inr, Option, Some}
use Rattle.std.specs.List.{list_any}
use Rattle.std.proofs.lemmas.Bool.{cases_eq, ne_eqb}
use Rattle.dmf_links.specs.declared.pair.Pair.{Pair}
use Rattle.dmf_path.specs.Step.{Step}
use Rattle.dmf_path.specs.Path.{has_rank}
use Rattle.dmf_path.specs.Pair.{pushed_pair, pushed_from, pushed_pairs}
use Rattle.dmf_node.specs.Node.{IsNode}
use Rattle.dmf_links.specs.Links.{Links, AreLinks, ArePlaces, AreRooms, IsSpare, no_place, tail_of, pair_at, pairs_at}
use Rattle.dmf_path.specs.Walk.{IsTrail, pushed_once, pushed}
use Rattle.dmf_links.proofs.tables.LinkPlaces.{lies-within, partner-other, room-used}
use Rattle.dmf_path.proofs.paths.Steps.{rank_of, path_on}
use Rattle.dmf_path.proofs.paths.Ranks.{rank_of-along, rank_of-against}
use Rattle.dmf_path.proofs.rooms.Pushing.{own, partner, other, is_beside, once-own, once-partner, once-other, length-pushed_once}
use Rattle.dmf_path.proofs.rooms.Pushed.{Falls, FallsOn, FallsOn-trail}

-- whether a place is one of these
abbrev pub is_on : ℕ → List ℕ → Bool
is_on p ps = list_any (λ q. q == p) ps

-- Links that fall on from the end of one that falls are neither that link nor its opposite.
on-falls : {l : Links} {labels : List ℕ} {u q : ℕ} (v : ℕ) (ps : List ℕ) → AreLinks l → Falls l labels u q → get_or labels v 0 < get_or labels u 0
    → FallsOn l labels v ps → (is_on q ps ≡ false) × (is_on (get_or l.partners q 0) ps ≡ false)
on-falls v [] links first lower falls = (refl, refl)
on-falls {l} {labels} {u} {q} v (p ∷ ps) links first lower falls =
    let not_own : p ≢ q = λ e. let same : v ≡ u = sym falls.0.tail ∙ ap (tail_of l) e ∙ first.tail in omega (arith, lower, ap (λ r. get_or labels r 0) same) in
    let not_partner : p ≢ get_or l.partners q 0 = λ e.
    let head : get_or l.heads p 0 ≡ u = ap (λ r. get_or l.heads r 0) e ∙ first.tail in
    omega (arith, lower, falls.0.label, ap (λ r. get_or labels r 0) head) in
    let later = on-falls (get_or l.heads p 0) ps links first (omega (arith, lower, falls.0.label)) falls.1 in
    (rw (ne_eqb p q not_own) later.0, rw (ne_eqb p (get_or l.partners q 0) not_partner) later.1)

-- the room that a link loses
abbrev pub loss : ℕ → ℕ → List ℕ → ℕ
loss amount p ps = cond (is_on p ps) amount 0

gain : (takes_back : Bool) (room amount : ℕ) → room + cond takes_back amount 0 - 0 + cond takes_back 0 0 ≡ room - 0 + cond takes_back amount 0
gain true room amount = omega arith
gain false room amount = omega arith

-- The room of link `p` after an amount is pushed along link `q` and then along others that leave both alone.
abbrev IsLeft : Links → Bool → ℕ → List ℕ → ℕ → List ℕ → ℕ → Type 0
IsLeft l takes_back amount rooms q ps p =
    get_or (pushed_once l takes_back amount q rooms) p 0 - loss amount p ps + cond takes_back (loss amount (get_or l.partners p 0) ps) 0
    ≡ get_or rooms p 0 - loss amount p (q ∷ ps) + cond takes_back (loss amount (get_or l.partners p 0) (q ∷ ps)) 0

is-left : {l : Links} (takes_back : Bool) (amount : ℕ) (rooms : List ℕ) (q p : ℕ) (ps : List ℕ) → AreLinks l → length rooms ≡ length l.heads
    → q < length l.heads → p < length l.heads → (is_on q ps ≡ false) × (is_on (get_or l.partners q 0) ps ≡ false) → IsLeft l takes_back amount rooms q ps p
is-left {l} takes_back amount rooms q p ps links long within link none =
    elim (is_beside q p links within link) [
      | own same ↦
          let apart : (q == get_or l.partners q 0) ≡ false = ne_eqb q (get_or l.partners q 0) (λ e. partner-other l q links within (sym e)) in
          let mine = once-own takes_back amount q rooms links long within in
          subst (IsLeft l takes_back amount rooms q ps) (sym same) (rw (none.0, none.1, eq-eqb q q refl, apart, mine) (omega arith))
      | partner same back ↦
          let room = ap (λ r. get_or (pushed_once l takes_back amount q rooms) r 0) same ∙ once-partner takes_back amount q rooms links long within
          ∙ ap (λ r. get_or rooms r 0 + cond takes_back amount 0) (sym same) in
          let mine : is_on p ps ≡ false = ap (λ r. is_on r ps) same ∙ none.1 in
          let its : is_on (get_or l.partners p 0) ps ≡ false = ap (λ r. is_on r ps) back ∙ none.0 in
          let apart : (q == p) ≡ false = ne_eqb q p (λ e. partner-other l q links within (sym (e ∙ same))) in
          rw (mine, its, eq-eqb q (get_or l.partners p 0) (sym back), apart, room) (gain takes_back (get_or rooms p 0) amount)
      | other a b c d ↦
          rw (once-other l takes_back amount q p rooms a b, ne_eqb q p (λ e. a (sym e)), ne_eqb q (get_or l.partners p 0) (λ e. c (sym e))) refl
    ]

-- The room of each link after an amount is pushed along links that fall.
pub room-pushed : {l : Links} (takes_back : Bool) (amount : ℕ) (labels rooms : List ℕ) (u : ℕ) (ps : List ℕ) (p : ℕ) → AreLinks l
    → length rooms ≡ length l.heads → FallsOn l labels u ps → p < length l.heads →
    get_or (pushed l takes_back amount ps rooms) p 0 ≡ get_or rooms p 0 - loss amount p ps + cond takes_back (loss amount (get_or l.partners p 0) ps) 0
room-pushed true amount labels rooms u [] p links long falls within = omega arith
room-pushed false amount labels rooms u [] p links long falls within = omega arith
room-pushed {l} takes_back amount labels rooms u (q ∷ ps) p links long falls within =
    room-pushed takes_back amount labels (pushed_once l takes_back amount q rooms) (get_or l.heads q 0) ps p links
    (length-pushed_once l takes_back amount q rooms ∙ long) falls.1 within ∙ is-left takes_back amount rooms q p ps links long falls.0.within within
    (on-falls (get_or l.heads q 0) ps links falls.0 (omega (arith, falls.0.label)) falls.1)

-- None of these links is spare.
abbrev pub AreUsed : Links → List ℕ → Type 0
AreUsed l [] = Unit {0}
AreUsed l (p ∷ ps) = (¬ IsSpare l p) × AreUsed l ps

-- The links of a trail have room, so none is.
pub trail-used : {l : Links} (labels rooms current : List ℕ) (v : ℕ) (ps : List ℕ) → AreLinks l → AreRooms l rooms → IsNode l.nodes v
    → IsTrail l labels rooms current v ps → AreUsed l ps
trail-used labels rooms current v [] links fit node trail = tt
trail-used {l} labels rooms current v (p ∷ ps) links fit node trail =
    let within = lies-within l v p links node trail.0.lies in
    (room-used l rooms p fit within trail.0.room, trail-used labels rooms current (get_or l.heads p 0) ps links fit (links.each p within).head trail.2)

-- Links with the same rank are one, unless they are spare.
rank-one : {l : Links} {places : List ℕ} (p q : ℕ) → AreLinks l → ArePlaces l places → p < length l.heads → q < length l.heads
    → ¬ IsSpare l p → ¬ IsSpare l q → rank_of l places p ≡ rank_of l places q → p ≡ q
rank-one {l} {places} p q links are within link p_used q_used same =
    let j = are.each p within p_used in
    let k = are.each q link q_used in
    elim j.1.2 [
      | inl along ↦
          let here = rank_of-along l places p j.0 are within j.1.0 j.1.1 along in
          elim k.1.2 [
            | inl also ↦
                let one : j.0 ≡ k.0 = omega (arith, same, here, rank_of-along l places q k.0 are link k.1.0 k.1.1 also) in
                sym along ∙ ap (λ i. get_or places i 0) one ∙ also
            | inr its ↦ absurd (omega (arith, same, here, rank_of-against l places q k.0 links are link k.1.0 k.1.1 its))
          ]
      | inr against ↦
          let here = rank_of-against l places p j.0 links are within j.1.0 j.1.1 against in
          elim k.1.2 [
            | inl its ↦ absurd (omega (arith, same, here, rank_of-along l places q k.0 are link k.1.0 k.1.1 its))
            | inr also ↦
                let one : j.0 ≡ k.0 = omega (arith, same, here, rank_of-against l places q k.0 links are link k.1.0 k.1.1 also) in
                sym against ∙ ap (λ i. get_or l.partners (get_or places i 0) 0) one ∙ also
          ]
    ]

-- A path has the rank of a link if and only if its links have that link.
has_rank-path_on : {l : Links} {places : List ℕ} (rooms labels : List ℕ) (rank q u : ℕ) (ps : List ℕ) → AreLinks l → ArePlaces l places → q < length l.heads
    → ¬ IsSpare l q → AreUsed l ps → rank_of l places q ≡ rank → FallsOn l labels u ps → has_rank (path_on l places rooms ps) rank ≡ is_on q ps
has_rank-path_on rooms labels rank q u [] links are link used all_used is falls = refl
has_rank-path_on {l} {places} rooms labels rank q u (p ∷ ps) links are link used all_used is falls =
    let later = has_rank-path_on rooms labels rank q (get_or l.heads p 0) ps links are link used all_used.1 is falls.1 in
    elim (cases_eq p q) [
      | inl same ↦ rw (later, eq-eqb p q same, eq-eqb (rank_of l places p) rank (ap (rank_of l places) same ∙ is)) refl
      | inr apart ↦
          let other : rank_of l places p ≢ rank = λ e. apart (rank-one p q links are falls.0.within link all_used.0 used (e ∙ sym is)) in
          rw (later, ne_eqb p q apart, ne_eqb (rank_of l places p) rank other) refl
    ]

-- a pair with these rooms
pub pair-rooms : (tail head : ℕ) {a b c d : ℕ} → a ≡ c → b ≡ d → ◌≡◌ {A = Option Pair} (Some (record { tail = tail; head = head; along = a; against = b }))
    (Some (record { tail = tail; head = head; along = c; against = d }))
pair-rooms tail head along against = λ i. Some (record { tail = tail; head = head; along = along i; against = against i })

-- The pair at each index
pair-pushed : {l : Links} (takes_back : Bool) {places : List ℕ} (rooms labels : List ℕ) (u amount k : ℕ) (ps : List ℕ) → AreLinks l → ArePlaces l places
    → length rooms ≡ length l.heads → AreUsed l ps → FallsOn l labels u ps → k < length places →
    pair_at l (pushed l takes_back amount ps rooms) (get_or places k 0) ≡ pushed_pair takes_back (1 + k) amount (path_on l places rooms ps)
    (pair_at l rooms (get_or places k 0))
pair-pushed {l} takes_back {places} rooms labels u amount k ps links are long used falls within =
    let q : ℕ = get_or places k 0 in
    elim (cases_eq q no_place) [
      | inl none ↦ rw (eq-eqb q no_place none) refl
      | inr there ↦
          let link : q < length l.heads = are.within k within there in
          let partner = links.each q link in
          let along = has_rank-path_on rooms labels (2 * (1 + k)) q u ps links are link (are.used q k link (within, there, inl refl)) used (rank_of-along l places q k are link within there refl) falls in
          let against = has_rank-path_on rooms labels (2 * (1 + k) + 1) (get_or l.partners q 0) u ps links are partner.partner
          (are.used (get_or l.partners q 0) k partner.partner (within, there, inr refl)) used
          (rank_of-against l places (get_or l.partners q 0) k links are partner.partner within there refl) falls in
          let mine = room-pushed takes_back amount labels rooms u ps q links long falls link in
          let its = room-pushed takes_back amount labels rooms u ps (get_or l.partners q 0) links long falls partner.partner in
          let back : loss amount (get_or l.partners (get_or l.partners q 0) 0) ps ≡ loss amount q ps = ap (λ r. loss amount r ps) partner.partner_back in
          rw (ne_eqb q no_place there, along, against)
          (pair-rooms (tail_of l q) (get_or l.heads q 0) mine (its ∙ ap
          (λ x. get_or rooms (get_or l.partners q 0) 0 - loss amount (get_or l.partners q 0) ps + cond takes_back x 0) back))
    ]

-- the pairs of the places from some index on
pairs-pushed : (l : Links) (takes_back : Bool) (amount j : ℕ) (rooms after : List ℕ) (path : List Step) (qs : List ℕ) →
    ((i : ℕ) → i < length qs → pair_at l after (get_or qs i 0) ≡ pushed_pair takes_back (j + i) amount path (pair_at l rooms (get_or qs i 0)))
    → map (pair_at l after) qs ≡ pushed_from takes_back j amount path (map (pair_at l rooms) qs)
pairs-pushed l takes_back amount j rooms after path [] each = refl
pairs-pushed l takes_back amount j rooms after path (q ∷ qs) each =
    let first : pair_at l after q ≡ pushed_pair takes_back j amount path (pair_at l rooms q) =
    each 0 (omega arith) ∙ ap (λ n. pushed_pair takes_back n amount path (pair_at l rooms q)) (let same : j + 0 ≡ j = omega arith in same) in
    let later = pairs-pushed l takes_back amount (j + 1) rooms after path qs (λ i h.
    each (suc i) (omega (arith, h)) ∙ ap (λ n. pushed_pair takes_back n amount path (pair_at l rooms (get_or qs i 0)))
    (let same : j + suc i ≡ j + 1 + i = omega arith in same)) in
    λ i. first i ∷ later i

-- After an amount is pushed along a trail, the pairs are pushed along the path of its steps.
pub pushed_pairs-pushed : {l : Links} (takes_back : Bool) {places : List ℕ} (rooms labels current trail : List ℕ) {start : ℕ} (amount : ℕ) → AreLinks l
    → ArePlaces l places → AreRooms l rooms → IsNode l.nodes start → IsTrail l labels rooms current start trail →
    pairs_at l places (pushed l takes_back amount trail rooms) ≡ pushed_pairs takes_back amount (path_on l places rooms trail) (pairs_at l places rooms)
pushed_pairs-pushed {l} takes_back {places} rooms labels current trail {start} amount links are fit node is =
    let falls = FallsOn-trail labels rooms current start trail links node is in
    pairs-pushed l takes_back amount 1 rooms (pushed l takes_back amount trail rooms) (path_on l places rooms trail) places
    (λ k h. pair-pushed takes_back rooms labels start amount k trail links are fit.0 (trail-used labels rooms current start trail links fit node is) falls h)
