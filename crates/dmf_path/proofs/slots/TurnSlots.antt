-- The slots in one turn of the walk: it goes on along a link, for which a slot is made free, or steps back.
use Rattle.std.proofs.Common.{ℕ, ◌≡◌, ◌≢◌, ◌+◌, ◌-◌, ◌%◌, ◌^◌, ◌<◌, ◌≤◌, List, [], ◌∷◌, ◌++◌, length, set, take, drop, get_or, refl, ap, sym, ◌∙◌, subst, arith}
use Rattle.std.proofs.Common.{append_assoc}
use Rattle.std.proofs.lemmas.List.{drop_more, take_more, take_more_set, drop-set-lt, map_push, length-set}
use Rattle.dmf_path.specs.declared.trail.Slot.{Slot}
use Rattle.dmf_node.specs.Node.{IsNode}
use Rattle.dmf_links.specs.Links.{AreLinks, AreRooms}
use Rattle.dmf_path.specs.Walk.{IsAdmissible, IsTrail, end_of}
use Rattle.dmf_path.specs.Held.{Way, places_of, walked_slots, rest_slots, filled_slots, settled, HaveLeft, slot_at, put_once, room_left, entered, stepped_back}
use Rattle.dmf_path.specs.Residual.{ResidualLinks, roomed, with_settled_rooms, put_once_on, MakesWay, free, leaves}
use Rattle.dmf_path.specs.Searching.{IsUnderWay, IsHolding}
use Rattle.dmf_path.proofs.rooms.RoomLeft.{room_left-now}
use Rattle.dmf_path.proofs.walks.Walking.{HasCome, come-next}
use Rattle.dmf_path.proofs.labels.Descending.{Descends}
use Rattle.dmf_path.proofs.slots.Settled.{settled-enter}
use Rattle.dmf_path.proofs.slots.Leaving.{HaveLeft-append, HaveLeft-split, HasLeft, has-left}
use Rattle.dmf_path.proofs.walks.SoFar.{IsTrail-set_above, walked-label, joint-low, descends-way, is-free}

-- The walk has come to a node, and applying the held pushes to the links gives the rooms by which the walk goes.
pub record IsOnWay (r : ResidualLinks) (labels current : List ℕ) (aim : ResidualLinks) (w : Way) (node : ℕ) : Type 0 where
  pub come : HasCome r.links labels aim.rooms w.start w.goal current (places_of (walked_slots w)) node
  pub way : IsUnderWay r.links labels aim.rooms current w
  pub holding : IsHolding r.links w r.rooms
  pub same : with_settled_rooms r w ≡ aim

-- The next slot has been made free.
pub record IsMade (r : ResidualLinks) (labels current : List ℕ) (aim : ResidualLinks) (w : Way) (node : ℕ) : Type 0 where
  pub on : IsOnWay r labels current aim w node
  pub next : w.walked < w.rest
  pub other : node ≢ w.joint

-- The ends of the path stay, and so does the memory for slots,
pub record KeepsAim (old new : Way) : Type 0 where
  pub start : new.start ≡ old.start
  pub goal : new.goal ≡ old.goal
  pub capacity : new.capacity ≡ old.capacity

-- where a slot is made free.
pub made-aim : {r : ResidualLinks} {w : Way} {next : ResidualLinks} {new : Way} → MakesWay r w next new → KeepsAim w new
made-aim (free less is kept) = rw is (record { start = refl; goal = refl; capacity = refl })
made-aim (leaves meets is put) = rw is (record { start = refl; goal = refl; capacity = refl })

-- The last link of the walk
pub last-split : (w : Way) → 0 < w.walked → w.walked ≤ length w.slots → walked_slots w ≡ take (w.walked - 1) w.slots ++ slot_at w.slots (w.walked - 1) ∷ []
last-split w some within =
    let e : w.walked - 1 + 1 ≡ w.walked = omega (arith, some) in
    ap (λ n. take n w.slots) (sym e) ∙ take_more w.slots (w.walked - 1) _ (omega (arith, some, within))

-- comes after the others.
pub last-places : (w : Way) → 0 < w.walked → w.walked ≤ length w.slots
    → places_of (walked_slots w) ≡ places_of (take (w.walked - 1) w.slots) ++ (slot_at w.slots (w.walked - 1)).place ∷ []
last-places w some within = ap places_of (last-split w some within) ∙ map_push (λ (t : Slot). t.place) (take (w.walked - 1) w.slots)
    (slot_at w.slots (w.walked - 1))

module _ {r : ResidualLinks} {labels current : List ℕ} {aim : ResidualLinks} {w : Way} {node : ℕ} (on : IsOnWay r labels current aim w node) where
  -- The rest begins no higher than the node.
  node-low : get_or labels w.joint 0 ≤ get_or labels node 0
  node-low = omega (arith, joint-low on.way, ap (λ u. get_or labels u 0) on.come.arrives)

  -- how many slots there are
  pub slots-left : w.walked + get_or labels node 0 ≡ length w.slots + get_or labels w.goal 0
  slots-left = omega (arith, walked-label on.way, ap (λ u. get_or labels u 0) on.come.arrives)

  -- The node's current link moves on.
  pub on-moved : (place : ℕ) → node ≢ w.joint → HasCome r.links labels aim.rooms w.start w.goal (set current node place) (places_of (walked_slots w)) node
      → IsOnWay r labels (set current node place) aim w node
  on-moved place other come = record {
    come = come;
    way = record {
      walking = come.walking;
      rest_is = IsTrail-set_above r.links labels aim.rooms current w.joint (places_of (rest_slots w)) node place on.way.rest_is (λ e. other (sym e)) node-low;
      ends = on.way.ends;
      joint_is = on.way.joint_is;
      order = on.way.order;
      within = on.way.within;
      one_slot_each = on.way.one_slot_each;
    };
    holding = on.holding;
    same = on.same;
  }

  module _ (links : AreLinks r.links) (start : IsNode r.links.nodes w.start) where
    -- The first link of the rest leaves.
    pub first-leaves : w.rest < length w.slots
        → HasLeft r.links r.takes_back labels w.sent (get_or labels w.start 0) 0 (walked_slots w) (drop (w.rest + 1) w.slots) (slot_at w.slots w.rest) r.rooms
    first-leaves within =
        let split : rest_slots w ≡ slot_at w.slots w.rest ∷ drop (w.rest + 1) w.slots = drop_more w.slots w.rest _ within in
        has-left r.takes_back labels w.sent (get_or labels w.start 0) 0 (walked_slots w) _ _ r.rooms links on.holding.rooms_are.0
        (subst (λ (ss : List Slot). Descends r.links labels (get_or labels w.start 0) 0 (places_of (walked_slots w) ++ places_of ss)) split
        (descends-way on.way links start)) (subst (λ (ss : List Slot). HaveLeft w.sent r.rooms (walked_slots w ++ ss)) split on.holding.have)

    way-left : w.rest < length w.slots → w.walked ≡ w.rest → AreRooms r.links (put_once r.links r.takes_back w.sent (slot_at w.slots w.rest) r.rooms)
        → IsMade (put_once_on r w.sent (slot_at w.slots w.rest)) labels current aim
        (record w { rest = w.rest + 1; joint = get_or r.links.heads (slot_at w.slots w.rest).place 0 }) node
    way-left within meets sums =
        let s : Slot = slot_at w.slots w.rest in
        let split : rest_slots w ≡ s ∷ drop (w.rest + 1) w.slots = drop_more w.slots w.rest _ within in
        let first = first-leaves within in
        let trail : IsTrail r.links labels aim.rooms current w.joint (places_of (s ∷ drop (w.rest + 1) w.slots)) =
        subst (λ (ss : List Slot). IsTrail r.links labels aim.rooms current w.joint (places_of ss)) split on.way.rest_is in
        record {
          on = record {
            come = on.come;
            way = record {
              walking = on.way.walking;
              rest_is = trail.2;
              ends = subst (λ (ss : List Slot). end_of r.links w.joint (places_of ss) ≡ w.goal) split on.way.ends;
              joint_is = (links.each s.place first.slot.within).head;
              order = omega (arith, meets);
              within = omega (arith, within);
              one_slot_each = on.way.one_slot_each;
            };
            holding = record { rooms_are = sums; small = on.holding.small; have = first.have };
            same = ap (roomed r) (sym first.same ∙ sym (ap (λ (ss : List Slot). settled r.links r.takes_back w.sent (walked_slots w ++ ss) r.rooms) split))
                ∙ on.same;
          };
          next = omega (arith, meets);
          other = λ e. omega (arith, trail.0.falls, node-low, ap (λ u. get_or labels u 0) e);
        }

    -- Once a slot is free, the walk is where it was.
    pub way-made : {next : ResidualLinks} {new : Way} → node ≢ w.joint → w.walked < length w.slots → MakesWay r w next new → AreRooms next.links next.rooms
        → IsMade next labels current aim new node
    way-made other short (free less is kept) sums = rw (is, kept) (record { on = on; next = less; other = other })
    way-made other short (leaves meets is put) sums =
        rw (is, put) (way-left (omega (arith, short, meets)) meets (subst (λ (x : ResidualLinks). AreRooms x.links x.rooms) put sums))

    -- Without its last link, the slots of the walk and of the rest
    filled : 0 < w.walked → filled_slots w ≡ take (w.walked - 1) w.slots ++ (slot_at w.slots (w.walked - 1) ∷ rest_slots w)
    filled some = ap (λ (ss : List Slot). ss ++ rest_slots w) (last-split w some (omega (arith, on.way.order, on.way.within)))
        ∙ append_assoc (take (w.walked - 1) w.slots) (slot_at w.slots (w.walked - 1) ∷ []) (rest_slots w)

    -- The last link of the walk leaves.
    pub last-leaves : 0 < w.walked → HasLeft r.links r.takes_back labels w.sent (get_or labels w.start 0) 0 (take (w.walked - 1) w.slots) (rest_slots w)
        (slot_at w.slots (w.walked - 1)) r.rooms
    last-leaves some =
        let front : List Slot = take (w.walked - 1) w.slots in
        let places = ap (λ ps. ps ++ places_of (rest_slots w)) (last-places w some (omega (arith, on.way.order, on.way.within)))
        ∙ append_assoc (places_of front) ((slot_at w.slots (w.walked - 1)).place ∷ []) (places_of (rest_slots w)) in
        has-left r.takes_back labels w.sent (get_or labels w.start 0) 0 front (rest_slots w) _ r.rooms links on.holding.rooms_are.0
        (subst (Descends r.links labels (get_or labels w.start 0) 0) places (descends-way on.way links start))
        (subst (HaveLeft w.sent r.rooms) (filled some) on.holding.have)

    -- The walk steps back.
    pub on-back : {tail : ℕ} (place : ℕ) → 0 < w.walked → get_or labels node 0 < get_or labels tail 0
        → HasCome r.links labels aim.rooms w.start w.goal (set current tail place) (places_of (take (w.walked - 1) w.slots)) tail
        → AreRooms r.links (put_once r.links r.takes_back w.sent (slot_at w.slots (w.walked - 1)) r.rooms)
        → IsOnWay (put_once_on r w.sent (slot_at w.slots (w.walked - 1))) labels (set current tail place) aim (stepped_back w) tail
    on-back {tail} place some higher come sums =
        let left = last-leaves some in
        record {
          come = come;
          way = record {
            walking = come.walking;
            rest_is = IsTrail-set_above r.links labels aim.rooms current w.joint (places_of (rest_slots w)) tail place on.way.rest_is
                (λ e. omega (arith, node-low, higher, ap (λ u. get_or labels u 0) e)) (omega (arith, node-low, higher));
            ends = on.way.ends;
            joint_is = on.way.joint_is;
            order = omega (arith, on.way.order);
            within = on.way.within;
            one_slot_each = on.way.one_slot_each;
          };
          holding = record { rooms_are = sums; small = on.holding.small; have = left.have };
          same = ap (roomed r) (sym left.same ∙ sym (ap (λ (ss : List Slot). settled r.links r.takes_back w.sent ss r.rooms) (filled some))) ∙ on.same;
        }

-- The walk goes on along a link with room.
pub on-entered : {r : ResidualLinks} {labels current : List ℕ} {aim : ResidualLinks} {w : Way} {node place : ℕ} → AreLinks r.links → IsNode r.links.nodes w.start
    → IsMade r labels current aim w node → get_or current node 0 ≡ place → IsAdmissible r.links labels aim.rooms node place
    → IsOnWay r labels current aim (entered w place (get_or r.rooms place 0)) (get_or r.links.heads place 0)
on-entered {r} {labels} {current} {aim} {w} {node} {place} links start made is can =
    let on = made.on in
    let is_free = is-free on.way links start on.come.is_node on.come.arrives made.other can.lies can.falls in
    let room : ℕ = get_or r.rooms place 0 in
    let s : Slot = record { place = place; full_at = (w.sent + room) % 2 ^ 64 } in
    let next : Way = entered w place room in
    let walked : walked_slots next ≡ walked_slots w ++ s ∷ [] = take_more_set w.slots w.walked s (omega (arith, made.next, on.way.within)) in
    let rest : rest_slots next ≡ rest_slots w = drop-set-lt w.rest w.slots w.walked s made.next in
    let places : places_of (walked_slots next) ≡ places_of (walked_slots w) ++ place ∷ [] =
    ap places_of walked ∙ map_push (λ (t : Slot). t.place) (walked_slots w) s in
    let come : HasCome r.links labels aim.rooms w.start w.goal current (places_of (walked_slots next)) (get_or r.links.heads place 0) =
    subst (λ ps. HasCome r.links labels aim.rooms w.start w.goal current ps (get_or r.links.heads place 0)) (sym places)
    (come-next links on.come is can) in
    let left : room_left w.sent s.full_at ≡ room = room_left-now w.sent room on.holding.small (omega (arith, on.holding.rooms_are.1 place is_free.within)) in
    let parts = HaveLeft-split w.sent r.rooms (walked_slots w) (rest_slots w) on.holding.have in
    let filled : filled_slots next ≡ walked_slots w ++ (s ∷ rest_slots w) = (λ i. walked i ++ rest i) ∙ append_assoc (walked_slots w) (s ∷ []) (rest_slots w) in
    record {
      come = come;
      way = record {
        walking = come.walking;
        rest_is = subst (λ (ss : List Slot). IsTrail r.links labels aim.rooms current w.joint (places_of ss)) (sym rest) on.way.rest_is;
        ends = subst (λ (ss : List Slot). end_of r.links w.joint (places_of ss) ≡ w.goal) (sym rest) on.way.ends;
        joint_is = on.way.joint_is;
        order = omega (arith, made.next);
        within = omega (arith, on.way.within, length-set w.slots w.walked s);
        one_slot_each = omega (arith, length-set w.slots w.walked s, on.way.one_slot_each);
      };
      holding = record {
        rooms_are = on.holding.rooms_are;
        small = on.holding.small;
        have = subst (HaveLeft w.sent r.rooms) (sym filled) (HaveLeft-append w.sent r.rooms (walked_slots w) (s ∷ rest_slots w) parts.0
            (omega arith, omega (arith, left), parts.1));
      };
      same = ap (roomed r) (ap (λ (ss : List Slot). settled r.links r.takes_back w.sent ss r.rooms) filled ∙ settled-enter r.links r.takes_back w.sent
          (walked_slots w) (rest_slots w) s r.rooms is_free.walked is_free.rest left) ∙ on.same;
    }
