-- The settled room of one link, by its slot.
use Rattle.std.proofs.Common.{ℕ, ◌≡◌, ◌+◌, ◌-◌, ◌^◌, ◌<◌, Bool, true, false, List, [], ◌∷◌, ◌++◌, length, get_or, refl, ap, ◌∙◌, arith, inl, inr, eq-eqb}
use Rattle.std.proofs.Common.{unwrap_or}
use Rattle.std.proofs.lemmas.Bool.{cases_eq, ne_eqb}
use Rattle.dmf_path.specs.declared.trail.Slot.{Slot}
use Rattle.dmf_links.specs.Links.{Links, AreLinks, AreRooms}
use Rattle.dmf_path.specs.Held.{Way, held_for, held_in, filled_slots, settled, rooms_with}
use Rattle.dmf_path.proofs.slots.Settled.{room-settled, settled-none, AreRooms-settled}

-- The amount held for a link is that in the first of its slots, or else what the other slots hold.
pub held-split : (sent : ℕ) (rooms : List ℕ) (slots others : List Slot) (p : ℕ)
    → held_for sent rooms (slots ++ others) p ≡ unwrap_or (held_in sent rooms slots p) (held_for sent rooms others p)
held-split sent rooms [] others p = refl
held-split sent rooms (s ∷ slots) others p = elim (cases_eq s.place p) [
  | inl same ↦ rw (eq-eqb s.place p same) refl
  | inr apart ↦ rw (ne_eqb s.place p apart) (held-split sent rooms slots others p)
]

-- If no slot is filled, the rooms are settled.
pub rooms_with-empty : (l : Links) (takes_back : Bool) (w : Way) (rooms : List ℕ) → filled_slots w ≡ [] → rooms_with l takes_back w rooms ≡ rooms
rooms_with-empty l takes_back w rooms empty = ap (λ (ss : List Slot). settled l takes_back w.sent ss rooms) empty ∙ settled-none l takes_back w.sent rooms

-- the room of a link if pushes cannot be taken back,
pub room-along : (l : Links) {takes_back : Bool} (sent : ℕ) (slots : List Slot) (rooms : List ℕ) (p : ℕ) → p < length rooms → takes_back ≡ false
    → get_or (settled l takes_back sent slots rooms) p 0 ≡ get_or rooms p 0 - held_for sent rooms slots p
room-along l {takes_back} sent slots rooms p within is = room-settled l takes_back sent slots rooms p within ∙ rw is (omega arith)

-- and if they can.
pub room-back : (l : Links) {takes_back : Bool} (sent : ℕ) (slots : List Slot) (rooms : List ℕ) (p : ℕ) → p < length rooms → takes_back ≡ true
    → get_or (settled l takes_back sent slots rooms) p 0 ≡ get_or rooms p 0 - held_for sent rooms slots p + held_for sent rooms slots (get_or l.partners p 0)
room-back l {takes_back} sent slots rooms p within is = room-settled l takes_back sent slots rooms p within ∙ rw is refl

-- The room of a link fits 64 bits once all is put on.
pub room-fits : {l : Links} (takes_back : Bool) (sent : ℕ) (slots : List Slot) (rooms : List ℕ) (p : ℕ) → AreLinks l → AreRooms l rooms → p < length l.heads
    → get_or (settled l takes_back sent slots rooms) p 0 < 2 ^ 64
room-fits {l} takes_back sent slots rooms p links are within = omega (arith, (AreRooms-settled l takes_back sent slots rooms links are).1 p within)
