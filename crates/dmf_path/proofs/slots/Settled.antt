-- The settled rooms of a path, when a link enters a slot or leaves it.
use Rattle.std.proofs.Common.{ℕ, ◌≡◌, ◌≢◌, ◌+◌, ◌-◌, ◌<◌, ◌≤◌, ◌==◌, Bool, true, false, cond, List, [], ◌∷◌, ◌++◌, length, get_or, refl, ap, sym, ◌∙◌, subst}
use Rattle.std.proofs.Common.{arith, inl, inr, eq-eqb}
use Rattle.std.proofs.lemmas.Bool.{cases_eq, ne_eqb}
use Rattle.std.proofs.lemmas.List.{ext_get_or}
use Rattle.std.proofs.lemmas.List.FromFn.{get_or-map-range_with_len, length-map-range_with_len}
use Rattle.dmf_path.specs.declared.trail.Slot.{Slot}
use Rattle.dmf_links.specs.Links.{Links, AreLinks, AreRooms}
use Rattle.dmf_path.specs.Held.{room_left, places_of, held_for, settled_room, settled, put_once, IsOff}
use Rattle.dmf_links.proofs.tables.LinkPlaces.{partner-other}
use Rattle.dmf_path.proofs.rooms.Pushing.{own, partner, other, is_beside, once-own, once-partner, once-other, length-pushed_once}
use Rattle.dmf_path.proofs.labels.Descending.{Descends, between, off-append, off-partner}

-- Putting on nothing changes no room.
pub nothing : (takes_back : Bool) (room : ℕ) → room - 0 + cond takes_back 0 0 ≡ room
nothing true room = omega arith
nothing false room = omega arith

gained : (takes_back : Bool) (room held : ℕ) → room - 0 + cond takes_back held 0 ≡ room + cond takes_back held 0 - 0 + cond takes_back 0 0
gained true room held = omega arith
gained false room held = omega arith

-- The places of two lists of slots are those of each.
pub places-append : (slots others : List Slot) → places_of (slots ++ others) ≡ places_of slots ++ places_of others
places-append [] others = refl
places-append (s ∷ slots) others = ap (λ ps. s.place ∷ ps) (places-append slots others)

module _ (sent : ℕ) (rooms : List ℕ) where
  -- For a link in no slot nothing is held.
  pub held-off : (slots : List Slot) (p : ℕ) → IsOff p (places_of slots) → held_for sent rooms slots p ≡ 0
  held-off [] p off = refl
  held-off (s ∷ slots) p off = rw (ne_eqb s.place p off.0) (held-off slots p off.1)

  -- The amount held for a link,
  pub held-own : (before behind : List Slot) (s : Slot) → IsOff s.place (places_of before)
      → held_for sent rooms (before ++ s ∷ behind) s.place ≡ get_or rooms s.place 0 - room_left sent s.full_at
  held-own [] behind s off = rw (eq-eqb s.place s.place refl) refl
  held-own (t ∷ before) behind s off = rw (ne_eqb t.place s.place off.0) (held-own before behind s off.1)

  -- and for another.
  pub held-other : (before behind : List Slot) (s : Slot) (p : ℕ) → s.place ≢ p
      → held_for sent rooms (before ++ s ∷ behind) p ≡ held_for sent rooms (before ++ behind) p
  held-other [] behind s p apart = rw (ne_eqb s.place p apart) refl
  held-other (t ∷ before) behind s p apart =
      ap (λ held. cond (t.place == p) (get_or rooms p 0 - room_left sent t.full_at) held) (held-other before behind s p apart)

  -- The amount held for a link is at most its room.
  pub held-le : (slots : List Slot) (p : ℕ) → held_for sent rooms slots p ≤ get_or rooms p 0
  held-le [] p = omega arith
  held-le (s ∷ slots) p = elim (cases_eq s.place p) [
    | inl same ↦ rw (eq-eqb s.place p same) (omega arith)
    | inr apart ↦ rw (ne_eqb s.place p apart) (held-le slots p)
  ]

-- It depends on the link's own room alone.
pub held-rooms : (sent : ℕ) (rooms after : List ℕ) (slots : List Slot) (p : ℕ) → get_or rooms p 0 ≡ get_or after p 0
    → held_for sent rooms slots p ≡ held_for sent after slots p
held-rooms sent rooms after [] p same = refl
held-rooms sent rooms after (s ∷ slots) p same =
    let later = held-rooms sent rooms after slots p same in
    λ i. cond (s.place == p) (same i - room_left sent s.full_at) (later i)

fits : (takes_back : Bool) (a b c d n : ℕ) → c ≤ a → d ≤ b → a + b < n → a - c + cond takes_back d 0 + (b - d + cond takes_back c 0) < n
fits true a b c d n below also less = omega arith
fits false a b c d n below also less = omega arith

empty : (takes_back : Bool) (a b c d : ℕ) → d ≤ b → a ≡ 0 → b ≡ 0 → a - c + cond takes_back d 0 ≡ 0
empty true a b c d below none also = omega arith
empty false a b c d below none also = omega arith

module _ (l : Links) (takes_back : Bool) (sent : ℕ) where
  -- Putting on what is held leaves as many rooms as there were.
  pub length-settled : (slots : List Slot) (rooms : List ℕ) → length (settled l takes_back sent slots rooms) ≡ length rooms
  length-settled slots rooms = length-map-range_with_len (settled_room l takes_back sent slots rooms) 0 (length rooms)

  -- the room of each link
  pub room-settled : (slots : List Slot) (rooms : List ℕ) (p : ℕ) → p < length rooms
      → get_or (settled l takes_back sent slots rooms) p 0 ≡ settled_room l takes_back sent slots rooms p
  room-settled slots rooms p within = get_or-map-range_with_len (settled_room l takes_back sent slots rooms) 0 (length rooms) p p 0 within (omega arith)

  -- Rooms are the settled ones if each is.
  pub ext-settled : (slots : List Slot) (rooms after : List ℕ) → length rooms ≡ length after
      → ((p : ℕ) → p < length rooms → settled_room l takes_back sent slots rooms p ≡ get_or after p 0) → settled l takes_back sent slots rooms ≡ after
  ext-settled slots rooms after long same = ext_get_or 0 (settled l takes_back sent slots rooms) after (length-settled slots rooms ∙ long)
      (λ p inside. let within : p < length rooms = omega (arith, inside, length-settled slots rooms) in room-settled slots rooms p within ∙ same p within)

  -- Both are the same where each is.
  same-settled : (slots others : List Slot) (rooms after : List ℕ) → length rooms ≡ length after
      → ((p : ℕ) → p < length rooms → settled_room l takes_back sent slots rooms p ≡ settled_room l takes_back sent others after p)
      → settled l takes_back sent slots rooms ≡ settled l takes_back sent others after
  same-settled slots others rooms after long same = ext-settled slots rooms (settled l takes_back sent others after) (long ∙ sym (length-settled others after))
      (λ p within. same p within ∙ sym (room-settled others after p (omega (arith, within, long))))

  -- If no slot is filled, nothing is held.
  pub settled-none : (rooms : List ℕ) → settled l takes_back sent [] rooms ≡ rooms
  settled-none rooms = ext-settled [] rooms rooms refl (λ p within. nothing takes_back (get_or rooms p 0))

  -- A link leaves its slot, and its held pushes are applied.
  pub settled-leave : (before behind : List Slot) (s : Slot) (rooms labels : List ℕ) (top bottom : ℕ) → AreLinks l → length rooms ≡ length l.heads
      → Descends l labels top bottom (places_of before ++ s.place ∷ places_of behind)
      → settled l takes_back sent (before ++ s ∷ behind) rooms ≡ settled l takes_back sent (before ++ behind) (put_once l takes_back sent s rooms)
  settled-leave before behind s rooms labels top bottom links long descends =
      let p0 : ℕ = s.place in
      let q0 : ℕ = get_or l.partners p0 0 in
      let after : List ℕ = put_once l takes_back sent s rooms in
      let b = between l labels top bottom p0 (places_of before) (places_of behind) descends in
      let within : p0 < length l.heads = b.falls.within in
      let amount : ℕ = get_or rooms p0 0 - room_left sent s.full_at in
      let off : IsOff p0 (places_of (before ++ behind)) = rw places-append (off-append p0 (places_of before) (places_of behind) b.before b.behind) in
      let partner_off : IsOff q0 (places_of (before ++ behind)) = rw places-append
      (off-partner l labels top bottom p0 (places_of before ++ places_of behind) links within b.falls.label b.without) in
      let partner_out : held_for sent rooms (before ++ s ∷ behind) q0 ≡ 0 =
      held-other sent rooms before behind s q0 (λ e. partner-other l p0 links within (sym e)) ∙ held-off sent rooms (before ++ behind) q0 partner_off in
      let held : held_for sent rooms (before ++ s ∷ behind) p0 ≡ amount = held-own sent rooms before behind s b.before in
      let none : held_for sent after (before ++ behind) p0 ≡ 0 = held-off sent after (before ++ behind) p0 off in
      let partner_none : held_for sent after (before ++ behind) q0 ≡ 0 = held-off sent after (before ++ behind) q0 partner_off in
      let mine = once-own takes_back amount p0 rooms links long within in
      let its = once-partner takes_back amount p0 rooms links long within in
      same-settled (before ++ s ∷ behind) (before ++ behind) rooms after (sym (length-pushed_once l takes_back amount p0 rooms))
      (λ p inside. elim (is_beside p0 p links within (omega (arith, inside, long))) [
        | own same ↦ subst (λ r. settled_room l takes_back sent (before ++ s ∷ behind) rooms r ≡ settled_room l takes_back sent (before ++ behind) after r)
            (sym same) (rw (held, partner_out, none, partner_none, mine) (omega arith))
        | partner same back ↦ rw (back, same) (rw (held, partner_out, none, partner_none, its) (gained takes_back (get_or rooms q0 0) amount))
        | other a b c d ↦
            let room = once-other l takes_back amount p0 p rooms a b in
            let its_room = once-other l takes_back amount p0 (get_or l.partners p 0) rooms c d in
            rw (
              held-other sent rooms before behind s p (λ e. a (sym e)),
              held-other sent rooms before behind s (get_or l.partners p 0) (λ e. c (sym e)),
              held-rooms sent rooms after (before ++ behind) p (sym room),
              held-rooms sent rooms after (before ++ behind) (get_or l.partners p 0) (sym its_room),
              room,
            ) refl
      ])

  -- A link enters a slot, with its room: nothing is held for it yet.
  pub settled-enter : (before behind : List Slot) (s : Slot) (rooms : List ℕ) → IsOff s.place (places_of before) → IsOff s.place (places_of behind)
      → room_left sent s.full_at ≡ get_or rooms s.place 0
      → settled l takes_back sent (before ++ s ∷ behind) rooms ≡ settled l takes_back sent (before ++ behind) rooms
  settled-enter before behind s rooms off later_off now =
      let none : held_for sent rooms (before ++ behind) s.place ≡ 0 = held-off sent rooms (before ++ behind) s.place
      (rw places-append (off-append s.place (places_of before) (places_of behind) off later_off)) in
      let held : (p : ℕ) → held_for sent rooms (before ++ s ∷ behind) p ≡ held_for sent rooms (before ++ behind) p = λ p. elim (cases_eq s.place p) [
        | inl same ↦ subst (λ q. held_for sent rooms (before ++ s ∷ behind) q ≡ held_for sent rooms (before ++ behind) q) same
            (rw none (held-own sent rooms before behind s off ∙ omega (arith, now)))
        | inr apart ↦ held-other sent rooms before behind s p apart
      ] in
      same-settled (before ++ s ∷ behind) (before ++ behind) rooms rooms refl (λ p inside. rw (held p, held (get_or l.partners p 0)) refl)

  -- If neither a link nor its opposite is in a slot, nothing is held for either.
  pub room-off : (slots : List Slot) (rooms : List ℕ) (p : ℕ) → p < length rooms → IsOff p (places_of slots) → IsOff (get_or l.partners p 0) (places_of slots)
      → get_or (settled l takes_back sent slots rooms) p 0 ≡ get_or rooms p 0
  room-off slots rooms p within off partner_off = room-settled slots rooms p within
      ∙ rw (held-off sent rooms slots p off, held-off sent rooms slots (get_or l.partners p 0) partner_off) (nothing takes_back (get_or rooms p 0))

  -- The settled rooms of each pair fit 64 bits together too.
  pub AreRooms-settled : (slots : List Slot) (rooms : List ℕ) → AreLinks l → AreRooms l rooms → AreRooms l (settled l takes_back sent slots rooms)
  AreRooms-settled slots rooms links are = (
    length-settled slots rooms ∙ are.0,
    λ p within.
        let q : ℕ = get_or l.partners p 0 in
        let link = links.each p within in
        rw (room-settled slots rooms p (omega (arith, within, are.0)), room-settled slots rooms q (omega (arith, link.partner, are.0)), link.partner_back)
        (fits takes_back (get_or rooms p 0) (get_or rooms q 0) (held_for sent rooms slots p) (held_for sent rooms slots q) _ (held-le sent rooms slots p)
        (held-le sent rooms slots q) (are.1 p within)),
    λ p within spare.
        let q : ℕ = get_or l.partners p 0 in
        let link = links.each p within in
        room-settled slots rooms p (omega (arith, within, are.0))
        ∙ empty takes_back (get_or rooms p 0) (get_or rooms q 0) (held_for sent rooms slots p) (held_for sent rooms slots q) (held-le sent rooms slots q)
        (are.2 p within spare) (are.2 q link.partner (link.partner_spare spare)),
  )
