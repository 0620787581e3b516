-- Held pushes: a push along the links of a path changes a link's room only when the link leaves the path.
-- Private: only contracts inside the crate and proofs use this.
use Rattle.std.specs.Prelude.{ℕ, ◌≢◌, ◌+◌, ◌-◌, ◌%◌, ◌^◌, ◌<◌, ◌≤◌, ◌==◌, Bool, if◌then◌else◌, List, [], ◌∷◌, ◌++◌, length, vec_capacity, map, min, take, drop}
use Rattle.std.specs.Prelude.{slice_index, slice_index_or, slice_set, Option, Some, None}
use Rattle.std.specs.List.{range_with_len}
use Rattle.dmf_path.specs.declared.trail.Slot.{Slot}
use Rattle.dmf_path.specs.declared.trail.Trail.{Trail}
use Rattle.dmf_links.specs.Links.{Links}
use Rattle.dmf_path.specs.Walk.{pushed_once}

-- the room that a link has left after `sent`, if it is full at a total of `full_at`; both modulo 2^64
abbrev pub room_left : ℕ → ℕ → ℕ
room_left sent full_at = (full_at + (2 ^ 64 - sent)) % 2 ^ 64

-- the places of the links in slots
abbrev pub places_of : List Slot → List ℕ
places_of slots = map (λ s. s.place) slots

-- The place is none of these.
abbrev pub IsOff : ℕ → List ℕ → Type 0
IsOff p [] = Unit {0}
IsOff p (q ∷ qs) = (q ≢ p) × IsOff p qs

-- the amount that is held for the link at place `p`
abbrev pub held_for : ℕ → List ℕ → List Slot → ℕ → ℕ
held_for sent rooms [] p = 0
held_for sent rooms (s ∷ slots) p =
    if s.place == p then slice_index rooms p - room_left sent s.full_at else held_for sent rooms slots p

-- the same, if the link is in a slot
abbrev pub held_in : ℕ → List ℕ → List Slot → ℕ → Option ℕ
held_in sent rooms [] p = None
held_in sent rooms (s ∷ slots) p =
    if s.place == p then Some (slice_index rooms p - room_left sent s.full_at) else held_in sent rooms slots p

-- the settled room of a link: its room with the held pushes applied
abbrev pub settled_room : Links → Bool → ℕ → List Slot → List ℕ → ℕ → ℕ
settled_room l takes_back sent slots rooms p =
    slice_index rooms p - held_for sent rooms slots p + (if takes_back then held_for sent rooms slots (slice_index l.partners p) else 0)

-- the settled rooms
abbrev pub settled : Links → Bool → ℕ → List Slot → List ℕ → List ℕ
settled l takes_back sent slots rooms = map (settled_room l takes_back sent slots rooms) (range_with_len 0 (length rooms))

-- A slot for each link of a path, and the memory for slots; how many slots the walk has filled; from which slot on they have the end of
-- the last path, and the node at which that begins; the total that was sent; and the ends of the path.
pub record Way : Type 0 where
  pub slots : List Slot
  pub capacity : ℕ
  pub walked : ℕ
  pub rest : ℕ
  pub joint : ℕ
  pub sent : ℕ
  pub start : ℕ
  pub goal : ℕ

-- what a trail keeps
abbrev pub way_of : Trail → Way
way_of t = record {
  slots = t.slots.items;
  capacity = vec_capacity t.slots;
  walked = t.walked;
  rest = t.rest;
  joint = t.joint;
  sent = t.sent;
  start = t.start;
  goal = t.goal;
}

-- the slots that the walk has filled, those with the end of the last path, and both
abbrev pub walked_slots : Way → List Slot
walked_slots w = take w.walked w.slots

abbrev pub rest_slots : Way → List Slot
rest_slots w = drop w.rest w.slots

abbrev pub filled_slots : Way → List Slot
filled_slots w = walked_slots w ++ rest_slots w

-- the settled rooms
abbrev pub rooms_with : Links → Bool → Way → List ℕ → List ℕ
rooms_with l takes_back w rooms = settled l takes_back w.sent (filled_slots w) rooms

-- the slot at an index
abbrev pub slot_at : List Slot → ℕ → Slot
slot_at slots i = slice_index_or slots i (record { place = 0; full_at = 0 })

-- Each of the links has at least the room that is left.
abbrev pub HaveLeft : ℕ → List ℕ → List Slot → Type 0
HaveLeft sent rooms [] = Unit {0}
HaveLeft sent rooms (s ∷ slots) =
    (s.full_at < 2 ^ 64) × (room_left sent s.full_at ≤ slice_index rooms s.place) × HaveLeft sent rooms slots

-- the least of a limit and the rooms that are left
abbrev pub least_left : ℕ → ℕ → List Slot → ℕ
least_left sent limit [] = limit
least_left sent limit (s ∷ slots) = min (room_left sent s.full_at) (least_left sent limit slots)

-- The slot has a link, which has at least the room that is left.
pub record IsSlot (l : Links) (sent : ℕ) (rooms : List ℕ) (s : Slot) : Type 0 where
  pub within : s.place < length l.heads
  pub left : room_left sent s.full_at ≤ slice_index rooms s.place

-- the rooms after the held pushes of a link are applied
abbrev pub put_once : Links → Bool → ℕ → Slot → List ℕ → List ℕ
put_once l takes_back sent s rooms = pushed_once l takes_back (slice_index rooms s.place - room_left sent s.full_at) s.place rooms

-- the rooms after the held pushes of each of these links are applied
abbrev pub put_each : Links → Bool → ℕ → List Slot → List ℕ → List ℕ
put_each l takes_back sent [] rooms = rooms
put_each l takes_back sent (s ∷ slots) rooms = put_each l takes_back sent slots (put_once l takes_back sent s rooms)

-- The held pushes of these links can be applied in turn.
abbrev pub CanPut : Links → Bool → ℕ → List Slot → List ℕ → Type 0
CanPut l takes_back sent [] rooms = Unit {0}
CanPut l takes_back sent (s ∷ slots) rooms = IsSlot l sent rooms s × CanPut l takes_back sent slots (put_once l takes_back sent s rooms)

-- The walk goes on along a link with this room.
abbrev pub entered : Way → ℕ → ℕ → Way
entered w place room = record w {
  slots = slice_set w.slots w.walked (record { place = place; full_at = (w.sent + room) % 2 ^ 64 });
  walked = w.walked + 1;
}

-- The walk steps back.
abbrev pub stepped_back : Way → Way
stepped_back w = record w { walked = w.walked - 1 }

-- Other slots, all of them free.
abbrev pub with_slots : Way → List Slot → Way
with_slots w slots = record w { slots = slots; walked = 0; rest = length slots; joint = w.goal }

-- All links have left.
abbrev pub emptied : Way → Way
emptied w = with_slots w w.slots

-- No link in a slot before `first` is full, and none from `behind` on.
pub record AreOpen (sent : ℕ) (slots : List Slot) (first behind : ℕ) : Type 0 where
  pub before : (i : ℕ) → i < first → (slot_at slots i).full_at ≢ sent
  pub after : (i : ℕ) → behind ≤ i → i < length slots → (slot_at slots i).full_at ≢ sent
