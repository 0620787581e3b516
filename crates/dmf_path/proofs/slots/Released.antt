-- The room of a link in no slot can be lowered: no held push depends on it.
use Rattle.std.proofs.Common.{ℕ, ◌≡◌, ◌≢◌, ◌+◌, ◌-◌, ◌<◌, ◌≤◌, Bool, true, false, cond, List, [], ◌∷◌, ◌++◌, length, get_or, set, ap, sym, ◌∙◌, subst, arith}
use Rattle.std.proofs.Common.{inl, inr, get_or-set_other, get_or-set_same, length-set}
use Rattle.std.proofs.lemmas.Bool.{cases_eq}
use Rattle.dmf_path.specs.declared.trail.Slot.{Slot}
use Rattle.dmf_node.specs.Node.{IsNode}
use Rattle.dmf_links.specs.Links.{Links, AreLinks, AreRooms, tail_of}
use Rattle.dmf_path.specs.Walk.{IsTrail, pushed_once}
use Rattle.dmf_path.specs.Held.{Way, places_of, walked_slots, rest_slots, filled_slots, held_for, settled, rooms_with, IsOff}
use Rattle.dmf_path.specs.Residual.{ResidualLinks, roomed, room_lowered, with_settled_rooms}
use Rattle.dmf_path.specs.Searching.{IsUnderWay, Labelling, IsAimed, IsSearching}
use Rattle.dmf_path.proofs.rooms.Pushed.{OpensUpwards, ArePassed-opens, NoneOpens, none-lowered, opens-none}
use Rattle.dmf_path.proofs.labels.Gated.{sound-opens}
use Rattle.dmf_path.proofs.labels.Descending.{off-rising}
use Rattle.dmf_path.proofs.slots.Settled.{length-settled, room-settled, ext-settled, held-off, held-rooms, places-append}
use Rattle.dmf_path.proofs.slots.SettledRoom.{room-along}
use Rattle.dmf_path.proofs.slots.Leaving.{HaveLeft-set}
use Rattle.dmf_path.proofs.walks.SoFar.{descends-way}
use Rattle.dmf_path.proofs.searches.SearchTurns.{aimed-with}

-- A link that does not fall is in no slot.
pub off-slots : {l : Links} {labels after current : List ℕ} {w : Way} (p : ℕ) → AreLinks l → IsNode l.nodes w.start → IsUnderWay l labels after current w
    → get_or labels (get_or l.heads p 0) 0 + 1 ≢ get_or labels (tail_of l p) 0 → IsOff p (places_of (filled_slots w))
off-slots {l} {labels} {w} p links start way rises =
    rw places-append (off-rising l labels (get_or labels w.start 0) 0 p (places_of (walked_slots w) ++ places_of (rest_slots w))
    (descends-way way links start) rises)

-- The room of such a link is its settled room, if pushes cannot be taken back.
pub room-alone : (l : Links) {takes_back : Bool} (w : Way) (rooms : List ℕ) (p : ℕ) → p < length l.heads → length rooms ≡ length l.heads → takes_back ≡ false
    → IsOff p (places_of (filled_slots w))
    → get_or (rooms_with l takes_back w rooms) p 0 ≡ get_or rooms p 0
room-alone l w rooms p within long is off =
    room-along l w.sent (filled_slots w) rooms p (omega (arith, within, long)) is ∙ rw (held-off w.sent rooms (filled_slots w) p off) (omega arith)

-- The held pushes of the other links stay,
held-set : (sent p x q : ℕ) (rooms : List ℕ) (slots : List Slot) → IsOff p (places_of slots)
    → held_for sent (set rooms p x) slots q ≡ held_for sent rooms slots q
held-set sent p x q rooms slots off = elim (cases_eq q p) [
  | inl same ↦ rw same (held-off sent (set rooms p x) slots p off ∙ sym (held-off sent rooms slots p off))
  | inr apart ↦ held-rooms sent (set rooms p x) rooms slots q (get_or-set_other rooms p q x 0 apart)
]

less : (takes_back : Bool) (room amount gained : ℕ) → amount ≤ room → room - amount - 0 + cond takes_back gained 0
    ≡ room - 0 + cond takes_back gained 0 - amount
less true room amount gained within = omega (arith, within)
less false room amount gained within = omega arith

-- and so lowering and settling give the same in either order.
settled-lowered : (l : Links) (takes_back : Bool) (sent p amount : ℕ) (slots : List Slot) (rooms : List ℕ) → p < length rooms → IsOff p (places_of slots)
    → amount ≤ get_or rooms p 0
    → settled l takes_back sent slots (pushed_once l false amount p rooms) ≡ pushed_once l false amount p (settled l takes_back sent slots rooms)
settled-lowered l takes_back sent p amount slots rooms within off enough =
    let before : List ℕ = settled l takes_back sent slots rooms in
    let room : ℕ = get_or rooms p 0 - amount in
    let put : ℕ = get_or before p 0 - amount in
    let before_long : length before ≡ length rooms = length-settled l takes_back sent slots rooms in
    let held : (q : ℕ) → held_for sent (set rooms p room) slots q ≡ held_for sent rooms slots q = λ q. held-set sent p room q rooms slots off in
    ext-settled l takes_back sent slots (set rooms p room) (set before p put) (length-set rooms p room ∙ sym (length-set before p put ∙ before_long))
    (λ q inside. rw (held q, held (get_or l.partners q 0)) (elim (cases_eq q p) [
      | inl same ↦ rw (
        same,
        get_or-set_same before p put 0 (omega (arith, within, before_long)),
        get_or-set_same rooms p room 0 within,
        room-settled l takes_back sent slots rooms p within,
        held-off sent rooms slots p off,
      ) (less takes_back (get_or rooms p 0) amount (held_for sent rooms slots (get_or l.partners p 0)) enough)
      | inr apart ↦ rw (get_or-set_other before p q put 0 apart, get_or-set_other rooms p q room 0 apart)
          (sym (room-settled l takes_back sent slots rooms q (omega (arith, inside, length-set rooms p room))))
    ]))

-- The trail does not depend on the room of the link.
IsTrail-set : (l : Links) (labels rooms current : List ℕ) (v p x : ℕ) (ps : List ℕ) → IsOff p ps → IsTrail l labels rooms current v ps
    → IsTrail l labels (set rooms p x) current v ps
IsTrail-set l labels rooms current v p x [] off trail = tt
IsTrail-set l labels rooms current v p x (q ∷ ps) off trail = (
  record { lies = trail.0.lies; room = omega (arith, trail.0.room, get_or-set_other rooms p q x 0 off.0); falls = trail.0.falls },
  trail.1,
  IsTrail-set l labels rooms current (get_or l.heads q 0) p x ps off.1 trail.2,
)

off-front : (p : ℕ) (ps qs : List ℕ) → IsOff p (ps ++ qs) → IsOff p ps × IsOff p qs
off-front p [] qs off = (tt, off)
off-front p (q ∷ ps) qs off = let later = off-front p ps qs off.1 in ((off.0, later.0), later.1)

-- After the room of the link is lowered, the search goes on.
searching-lowered : {r : ResidualLinks} {v : Labelling} {w : Way} (p amount : ℕ) {next : ResidualLinks} → IsSearching r v w → p < length r.links.heads
    → IsOff p (places_of (filled_slots w)) → amount ≤ get_or r.rooms p 0 → next ≡ room_lowered r p amount → AreRooms next.links next.rooms
    → IsSearching next v w × (with_settled_rooms next w ≡ room_lowered (with_settled_rooms r w) p amount)
searching-lowered {r} {v} {w} p amount is within off enough made sums =
    let l : Links = r.links in
    let labels : List ℕ = v.labels in
    let before : List ℕ = (with_settled_rooms r w).rooms in
    let after : List ℕ = (room_lowered (with_settled_rooms r w) p amount).rooms in
    let long : length before ≡ length l.heads = length-settled l r.takes_back w.sent (filled_slots w) r.rooms ∙ is.holding.rooms_are.0 in
    let now : with_settled_rooms (room_lowered r p amount) w ≡ room_lowered (with_settled_rooms r w) p amount =
    ap (roomed r) (settled-lowered l r.takes_back w.sent p amount (filled_slots w) r.rooms (omega (arith, within, is.holding.rooms_are.0)) off enough) in
    let opens : OpensUpwards l labels before after = opens-none l labels before after (none-lowered l before p amount long within) in
    let apart = off-front p (places_of (walked_slots w)) (places_of (rest_slots w)) (subst (IsOff p) (places-append (walked_slots w) (rest_slots w)) off) in
    let a = is.aimed in
    let way = is.under_way in
    let aimed = aimed-with r w a a.start_label (sound-opens l labels before after (get_or labels w.start 0) a.links opens a.sound) in
    let goes_on : IsUnderWay l labels after v.current w = record {
      walking = record {
        current_is = way.walking.current_is;
        passed = ArePassed-opens l labels before after w.goal v.current a.links opens way.walking.passed;
        trail_is = IsTrail-set l labels before v.current w.start p (get_or before p 0 - amount) (places_of (walked_slots w)) apart.0 way.walking.trail_is;
      };
      rest_is = IsTrail-set l labels before v.current w.joint p (get_or before p 0 - amount) (places_of (rest_slots w)) apart.1 way.rest_is;
      ends = way.ends;
      joint_is = way.joint_is;
      order = way.order;
      within = way.within;
      one_slot_each = way.one_slot_each;
    } in
    rw made (
      record {
        aimed = subst (λ (x : ResidualLinks). IsAimed (record { residual = x; start = w.start; goal = w.goal }) labels w.capacity) (sym now) aimed;
        holding = record {
          rooms_are = subst (λ (x : ResidualLinks). AreRooms x.links x.rooms) made sums;
          small = is.holding.small;
          have = HaveLeft-set w.sent p (get_or r.rooms p 0 - amount) r.rooms (filled_slots w) off is.holding.have;
        };
        under_way = subst (λ (x : ResidualLinks). IsUnderWay l labels x.rooms v.current w) (sym now) goes_on;
      },
      now,
    )

-- The room of a link is lowered, while the link is in no slot. No link gets room.
pub record IsLowered (r : ResidualLinks) (v : Labelling) (w : Way) (p amount : ℕ) (next : ResidualLinks) : Type 0 where
  pub searching : IsSearching next v w
  pub told_is : with_settled_rooms next w ≡ room_lowered (with_settled_rooms r w) p amount
  pub none : NoneOpens (with_settled_rooms r w).rooms (room_lowered (with_settled_rooms r w) p amount).rooms

-- A search stays one when the room of a link in no slot is lowered.
pub is-lowered : {r : ResidualLinks} {v : Labelling} {w : Way} (p amount : ℕ) {next : ResidualLinks} → IsSearching r v w → p < length r.links.heads
    → amount ≤ get_or (with_settled_rooms r w).rooms p 0 → IsOff p (places_of (filled_slots w))
    → get_or (with_settled_rooms r w).rooms p 0 ≡ get_or r.rooms p 0 → next ≡ room_lowered r p amount → AreRooms next.links next.rooms
    → IsLowered r v w p amount next
is-lowered {r} {w = w} p amount is within enough off room made sums =
    let before : List ℕ = (with_settled_rooms r w).rooms in
    let long : length before ≡ length r.links.heads = length-settled r.links r.takes_back w.sent (filled_slots w) r.rooms ∙ is.holding.rooms_are.0 in
    let low = searching-lowered p amount is within off (omega (arith, enough, room)) made sums in
    record { searching = low.0; told_is = low.1; none = none-lowered r.links before p amount long within }
