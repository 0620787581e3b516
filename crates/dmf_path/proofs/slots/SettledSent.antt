-- The settled rooms when more is sent along the path.
use Rattle.std.proofs.Common.{ℕ, ◌≡◌, ◌+◌, ◌-◌, ◌^◌, ◌%◌, ◌<◌, ◌≤◌, ◌⊎◌, inl, inr, Bool, true, false, cond, suc, List, [], ◌∷◌, length, get_or, refl, ap, sym}
use Rattle.std.proofs.Common.{◌∙◌, arith, ⊎_elim, eq-eqb}
use Rattle.std.proofs.lemmas.Bool.{cases_eq, ne_eqb}
use Rattle.dmf_path.specs.declared.trail.Slot.{Slot}
use Rattle.dmf_links.specs.Links.{Links, AreLinks, tail_of}
use Rattle.dmf_path.specs.Walk.{bottleneck_on, pushed}
use Rattle.dmf_path.specs.Held.{room_left, places_of, held_for, settled, HaveLeft, least_left, slot_at, IsOff}
use Rattle.dmf_path.proofs.rooms.RoomLeft.{room_left-sent}
use Rattle.dmf_path.proofs.rooms.Pushing.{length-pushed}
use Rattle.dmf_path.proofs.rooms.Pushed.{FallsOn}
use Rattle.dmf_path.proofs.rooms.PushedPairs.{loss, room-pushed}
use Rattle.dmf_path.proofs.labels.Descending.{Descends, off-rising, off-partner}
use Rattle.dmf_path.proofs.slots.Settled.{length-settled, room-settled, ext-settled, held-off}

-- So much can be sent.
abbrev pub CanSend : ℕ → ℕ → List Slot → Type 0
CanSend sent amount [] = Unit {0}
CanSend sent amount (s ∷ slots) = (amount ≤ room_left sent s.full_at) × CanSend sent amount slots

-- No more than the least that is left can be sent.
pub CanSend-least : (sent amount limit : ℕ) (slots : List Slot) → amount ≤ least_left sent limit slots → CanSend sent amount slots
CanSend-least sent amount limit [] within = tt
CanSend-least sent amount limit (s ∷ slots) within = (omega (arith, within), CanSend-least sent amount limit slots (omega (arith, within)))

-- The room that is left does not exceed the room.
pub HaveLeft-sent : (sent amount : ℕ) (rooms : List ℕ) (slots : List Slot) → sent < 2 ^ 64 → CanSend sent amount slots → HaveLeft sent rooms slots
    → HaveLeft ((sent + amount) % 2 ^ 64) rooms slots
HaveLeft-sent sent amount rooms [] small can have = tt
HaveLeft-sent sent amount rooms (s ∷ slots) small can have =
    (have.0, omega (arith, have.1, room_left-sent sent amount s.full_at small have.0 can.0), HaveLeft-sent sent amount rooms slots small can.1 have.2)

-- More is held for a link on the path.
held-sent : (sent amount : ℕ) (rooms : List ℕ) (slots : List Slot) (p : ℕ) → sent < 2 ^ 64 → CanSend sent amount slots → HaveLeft sent rooms slots →
    held_for ((sent + amount) % 2 ^ 64) rooms slots p ≡ held_for sent rooms slots p + loss amount p (places_of slots)
held-sent sent amount rooms [] p small can have = refl
held-sent sent amount rooms (s ∷ slots) p small can have = elim (cases_eq s.place p) [
  | inl same ↦
      let left = room_left-sent sent amount s.full_at small have.0 can.0 in
      rw (eq-eqb s.place p same) (omega (arith, left, can.0, have.1, ap (λ q. get_or rooms q 0) same))
  | inr apart ↦ rw (ne_eqb s.place p apart) (held-sent sent amount rooms slots p small can.1 have.2)
]

-- A link that is not on the path loses nothing.
loss-off : (amount p : ℕ) (ps : List ℕ) → IsOff p ps → loss amount p ps ≡ 0
loss-off amount p [] off = refl
loss-off amount p (q ∷ ps) off = rw (ne_eqb q p off.0) (loss-off amount p ps off.1)

more-held : (takes_back : Bool) (room held partner lost gained : ℕ) → (partner ≡ 0) ⊎ (lost ≡ 0) →
    room - (held + lost) + cond takes_back (partner + gained) 0 ≡ room - held + cond takes_back partner 0 - lost + cond takes_back gained 0
more-held true room held partner lost gained none = ⊎_elim (λ (a : partner ≡ 0). omega (arith, a)) (λ (b : lost ≡ 0). omega (arith, b)) none
more-held false room held partner lost gained none = omega arith

-- The additional amount is pushed along the path.
pub settled-sent : {l : Links} (takes_back : Bool) (sent amount : ℕ) (slots : List Slot) (rooms labels : List ℕ) (v top bottom : ℕ) → AreLinks l
    → length rooms ≡ length l.heads → sent < 2 ^ 64
    → FallsOn l labels v (places_of slots) → Descends l labels top bottom (places_of slots) → CanSend sent amount slots → HaveLeft sent rooms slots
    → settled l takes_back ((sent + amount) % 2 ^ 64) slots rooms ≡ pushed l takes_back amount (places_of slots) (settled l takes_back sent slots rooms)
settled-sent {l} takes_back sent amount slots rooms labels v top bottom links long small falls descends can have =
    let before : List ℕ = settled l takes_back sent slots rooms in
    let before_long : length before ≡ length l.heads = length-settled l takes_back sent slots rooms ∙ long in
    ext-settled l takes_back ((sent + amount) % 2 ^ 64) slots rooms (pushed l takes_back amount (places_of slots) before)
    (long ∙ sym (length-pushed l takes_back amount (places_of slots) before ∙ before_long))
    (λ p here.
    let within : p < length l.heads = omega (arith, here, long) in
    let q : ℕ = get_or l.partners p 0 in
    let apart : (held_for sent rooms slots q ≡ 0) ⊎ (loss amount p (places_of slots) ≡ 0) =
    elim (cases_eq (get_or labels (get_or l.heads p 0) 0 + 1) (get_or labels (tail_of l p) 0)) [
      | inl falls_here ↦ inl (held-off sent rooms slots q (off-partner l labels top bottom p (places_of slots) links within falls_here descends))
      | inr rises ↦ inr (loss-off amount p (places_of slots) (off-rising l labels top bottom p (places_of slots) descends rises))
    ] in
    rw (held-sent sent amount rooms slots p small can have, held-sent sent amount rooms slots q small can have)
    (more-held takes_back (get_or rooms p 0) (held_for sent rooms slots p) (held_for sent rooms slots q) (loss amount p (places_of slots))
    (loss amount q (places_of slots)) apart)
    ∙ ap (λ r. r - loss amount p (places_of slots) + cond takes_back (loss amount q (places_of slots)) 0)
    (sym (room-settled l takes_back sent slots rooms p here))
    ∙ sym (room-pushed takes_back amount labels before v (places_of slots) p links before_long falls within))

-- The bottleneck on links is the least that is left in their slots, if that is the room of each.
pub bottleneck-left : (sent limit : ℕ) (rooms : List ℕ) (slots : List Slot)
    → ((i : ℕ) → i < length slots → get_or rooms (slot_at slots i).place 0 ≡ room_left sent (slot_at slots i).full_at)
    → bottleneck_on rooms limit (places_of slots) ≡ least_left sent limit slots
bottleneck-left sent limit rooms [] each = refl
bottleneck-left sent limit rooms (s ∷ slots) each =
    rw (each 0 (omega arith), bottleneck-left sent limit rooms slots (λ i h. each (suc i) (omega (arith, h)))) refl
