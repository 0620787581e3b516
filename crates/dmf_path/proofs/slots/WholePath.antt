-- A path from the start to the goal with its links in all slots: more is sent along it, and it is split.
use Rattle.std.proofs.Common.{ℕ, ◌≡◌, ◌≢◌, ◌+◌, ◌-◌, ◌^◌, ◌<◌, Bool, List, ◌∷◌, ◌++◌, length, take, drop, get_or, ap, sym, ◌∙◌, subst, inl, inr}
use Rattle.std.proofs.Common.{◌≤◌, arith, true, false, cond}
use Rattle.std.proofs.lemmas.Bool.{cases_lt}
use Rattle.std.proofs.lemmas.List.{take-append-drop, drop_more}
use Rattle.dmf_path.specs.declared.trail.Slot.{Slot}
use Rattle.dmf_links.specs.Links.{Links, AreLinks}
use Rattle.dmf_path.specs.Walk.{IsTrail, end_of}
use Rattle.dmf_path.specs.Held.{Way, held_for, places_of, walked_slots, rest_slots, filled_slots, settled, HaveLeft, room_left, slot_at}
use Rattle.dmf_path.specs.Searching.{IsUnderWay}
use Rattle.dmf_path.proofs.walks.Walking.{IsTrail-append, end_of-append}
use Rattle.dmf_path.proofs.rooms.RoomLeft.{room_left-full}
use Rattle.dmf_path.proofs.labels.Descending.{Descends, IsBetween, between, off-partner}
use Rattle.dmf_path.proofs.slots.Settled.{places-append, room-settled, held-off, held-own}
use Rattle.dmf_path.proofs.slots.Leaving.{HaveLeft-split}
use Rattle.dmf_path.proofs.walks.SoFar.{walked-label, rest-label}

-- The walk has come to the node where the rest begins: the two are a path from the start to the goal.
pub record IsWhole (l : Links) (labels after current : List ℕ) (w : Way) : Type 0 where
  pub meets : w.walked ≡ w.rest
  pub filled : filled_slots w ≡ w.slots
  pub trail : IsTrail l labels after current w.start (places_of w.slots)
  pub ends : end_of l w.start (places_of w.slots) ≡ w.goal

-- Once the walk has come to the joint, the slots are a whole path.
pub is-whole : {l : Links} {labels after current : List ℕ} {w : Way} → IsUnderWay l labels after current w
    → end_of l w.start (places_of (walked_slots w)) ≡ w.joint → IsWhole l labels after current w
is-whole {l} {labels} {after} {current} {w} way joins =
    let meets : w.walked ≡ w.rest = omega (arith, walked-label way, rest-label way, ap (λ u. get_or labels u 0) joins) in
    let filled : filled_slots w ≡ w.slots = ap (λ n. walked_slots w ++ drop n w.slots) (sym meets) ∙ take-append-drop w.walked w.slots in
    let places : places_of (walked_slots w) ++ places_of (rest_slots w) ≡ places_of w.slots =
    sym (places-append (walked_slots w) (rest_slots w)) ∙ ap places_of filled in
    record {
      meets = meets;
      filled = filled;
      trail = subst (IsTrail l labels after current w.start) places
          (IsTrail-append l labels after current w.start (places_of (walked_slots w)) (places_of (rest_slots w)) way.walking.trail_is
          (subst (λ v. IsTrail l labels after current v (places_of (rest_slots w))) (sym joins) way.rest_is));
      ends = ap (end_of l w.start) (sym places) ∙ end_of-append l w.start (places_of (walked_slots w)) (places_of (rest_slots w))
          ∙ ap (λ v. end_of l v (places_of (rest_slots w))) joins ∙ way.ends;
    }

-- Where all but what is left is taken off a room, that is left.
left-alone : (takes_back : Bool) (room left : ℕ) → left ≤ room → room - (room - left) + cond takes_back 0 0 ≡ left
left-alone true room left within = omega arith
left-alone false room left within = omega arith

module _ (l : Links) (labels : List ℕ) (top bottom : ℕ) (slots : List Slot) (i : ℕ) (descends : Descends l labels top bottom (places_of slots))
    (within : i < length slots) where
  abbrev s : Slot
  s = slot_at slots i

  -- One of the slots, and those before and after it
  split-at : slots ≡ take i slots ++ (s ∷ drop (i + 1) slots)
  split-at = sym (take-append-drop i slots) ∙ ap (λ (ss : List Slot). take i slots ++ ss) (drop_more slots i _ within)

  link-at : IsBetween l labels top bottom s.place (places_of (take i slots)) (places_of (drop (i + 1) slots))
  link-at = between l labels top bottom s.place (places_of (take i slots)) (places_of (drop (i + 1) slots))
      (subst (Descends l labels top bottom) (ap places_of split-at ∙ places-append (take i slots) (s ∷ drop (i + 1) slots)) descends)

  -- The place in a slot is that of a link.
  pub slot-within : s.place < length l.heads
  slot-within = link-at.falls.within

  module _ (takes_back : Bool) (sent : ℕ) (rooms : List ℕ) (links : AreLinks l) (long : length rooms ≡ length l.heads) (have : HaveLeft sent rooms slots) where
    left : HaveLeft sent rooms (s ∷ drop (i + 1) slots)
    left = (HaveLeft-split sent rooms (take i slots) (s ∷ drop (i + 1) slots) (subst (HaveLeft sent rooms) split-at have)).1

    -- The room of its link is the room that it has left,
    pub slot-room : get_or (settled l takes_back sent slots rooms) s.place 0 ≡ room_left sent s.full_at
    slot-room =
        let own = subst (λ (ss : List Slot). held_for sent rooms ss s.place ≡ get_or rooms s.place 0 - room_left sent s.full_at) (sym split-at)
        (held-own sent rooms (take i slots) (drop (i + 1) slots) s link-at.before) in
        let partner = held-off sent rooms slots (get_or l.partners s.place 0)
        (off-partner l labels top bottom s.place (places_of slots) links link-at.falls.within link-at.falls.label descends) in
        room-settled l takes_back sent slots rooms s.place (omega (arith, link-at.falls.within, long))
        ∙ rw (own, partner) (left-alone takes_back (get_or rooms s.place 0) (room_left sent s.full_at) left.1)

    -- so a link that is not full has room.
    pub slot-open : sent < 2 ^ 64 → s.full_at ≢ sent → 0 < get_or (settled l takes_back sent slots rooms) s.place 0
    slot-open small not_full = elim (cases_lt 0 (room_left sent s.full_at)) [
      | inl some ↦ omega (arith, some, slot-room)
      | inr none ↦ absurd (not_full (room_left-full sent s.full_at small left.0 (omega (arith, none))))
    ]
