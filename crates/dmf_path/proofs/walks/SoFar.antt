-- How far the search for the next path has come: what its two parts say about a link of the walk's last node.
use Rattle.std.proofs.Common.{ℕ, ◌≡◌, ◌≢◌, ◌+◌, ◌-◌, ◌<◌, ◌≤◌, Bool, List, [], ◌∷◌, ◌++◌, length, set, get_or, ap, sym, ◌∙◌, arith}
use Rattle.std.proofs.lemmas.List.{get_or-set_other, length-take-le, length-drop, length-map, nil_from_length}
use Rattle.dmf_node.specs.Node.{IsNode}
use Rattle.dmf_links.specs.Links.{Links, LiesAt, AreLinks, tail_of}
use Rattle.dmf_path.specs.Walk.{IsTrail, end_of}
use Rattle.dmf_path.specs.Held.{Way, places_of, walked_slots, rest_slots, filled_slots, rooms_with, IsOff}
use Rattle.dmf_path.specs.Searching.{IsUnderWay}
use Rattle.dmf_links.proofs.tables.LinkPlaces.{lies-within}
use Rattle.dmf_path.proofs.walks.Walking.{label-trail}
use Rattle.dmf_path.proofs.labels.Descending.{Descends, descends-raised, descends-lowered, descends-append, descends-trail, off-above, off-below, off-append, off-partner}
use Rattle.dmf_path.proofs.slots.Settled.{places-append, room-off}

-- Changing the current link of a node leaves the trail, if the trail does not begin there and the node is not lower.
pub IsTrail-set_above : (l : Links) (labels rooms current : List ℕ) (v : ℕ) (ps : List ℕ) (x y : ℕ) → IsTrail l labels rooms current v ps → v ≢ x
    → get_or labels v 0 ≤ get_or labels x 0 → IsTrail l labels rooms (set current x y) v ps
IsTrail-set_above l labels rooms current v [] x y trail other low = tt
IsTrail-set_above l labels rooms current v (p ∷ ps) x y trail other low = (
  trail.0,
  get_or-set_other current x v y 0 other ∙ trail.1,
  IsTrail-set_above l labels rooms current (get_or l.heads p 0) ps x y trail.2
      (λ same. omega (arith, trail.0.falls, low, ap (λ u. get_or labels u 0) same)) (omega (arith, trail.0.falls, low)),
)

-- A link of a node is not on the trail, if the trail does not begin there and the node is not lower.
off-trail : {l : Links} (labels rooms current : List ℕ) {v : ℕ} (ps : List ℕ) {x : ℕ} (p : ℕ) → AreLinks l → IsNode l.nodes v
    → IsTrail l labels rooms current v ps → v ≢ x → get_or labels v 0 ≤ get_or labels x 0 → tail_of l p ≡ x → IsOff p ps
off-trail labels rooms current [] p links node trail other low tail = tt
off-trail {l} labels rooms current {v} (q ∷ ps) p links node trail other low tail =
    let head : ℕ = get_or l.heads q 0 in
    let head_is = (links.each q (lies-within l v q links node trail.0.lies)).head in (
      λ same. other (sym (links.at_tail v q node trail.0.lies) ∙ ap (tail_of l) same ∙ tail),
      off-above l labels (get_or labels head 0) (get_or labels (end_of l head ps) 0) p ps (descends-trail l labels rooms current head ps links head_is trail.2)
          (omega (arith, trail.0.falls, low, ap (λ u. get_or labels u 0) tail)),
    )

-- A link that falls from the walk's last node is in no slot.
pub record IsFree (l : Links) (w : Way) (p : ℕ) : Type 0 where
  pub within : p < length l.heads
  pub walked : IsOff p (places_of (walked_slots w))
  pub rest : IsOff p (places_of (rest_slots w))
  pub partner : IsOff (get_or l.partners p 0) (places_of (filled_slots w))

-- The room of such a link is its settled room.
pub free-room : {l : Links} (takes_back : Bool) {w : Way} (rooms : List ℕ) {p : ℕ} → length rooms ≡ length l.heads → IsFree l w p
    → get_or (rooms_with l takes_back w rooms) p 0 ≡ get_or rooms p 0
free-room {l} takes_back {w} rooms {p} long free = room-off l takes_back w.sent (filled_slots w) rooms p (omega (arith, free.within, long))
    (rw places-append (off-append p (places_of (walked_slots w)) (places_of (rest_slots w)) free.walked free.rest)) free.partner

module _ {l : Links} {labels rooms current : List ℕ} {w : Way} (way : IsUnderWay l labels rooms current w) where
  -- the node to which the walk has come
  abbrev walk_end : ℕ
  walk_end = end_of l w.start (places_of (walked_slots w))

  -- how far the labels fall in each part
  pub walked-label : w.walked + get_or labels walk_end 0 ≡ length w.slots + get_or labels w.goal 0
  walked-label =
      let long : length (places_of (walked_slots w)) ≡ w.walked =
      length-map (walked_slots w) (λ s. s.place) ∙ length-take-le w.walked w.slots (omega (arith, way.order, way.within)) in
      omega (arith, long, way.one_slot_each, label-trail l labels rooms current w.start (places_of (walked_slots w)) way.walking.trail_is)

  -- The rest has as many links as its beginning is above the goal.
  pub rest-label : w.rest + get_or labels w.joint 0 ≡ length w.slots + get_or labels w.goal 0
  rest-label =
      let long : length (places_of (rest_slots w)) ≡ length w.slots - w.rest = length-map (rest_slots w) (λ s. s.place) ∙ length-drop w.rest w.slots in
      let falls = label-trail l labels rooms current w.joint (places_of (rest_slots w)) way.rest_is in
      omega (arith, long, way.within, ap (λ u. get_or labels u 0) way.ends, falls)

  -- The rest begins no higher than the walk's last node.
  pub joint-low : get_or labels w.joint 0 ≤ get_or labels walk_end 0
  joint-low = omega (arith, walked-label, rest-label, way.order)

  -- If the walk has come to the goal, it is where the rest begins.
  pub goal-joint : {node : ℕ} → walk_end ≡ node → node ≢ w.joint → node ≢ w.goal
  goal-joint {node} arrives other same =
      let none : get_or labels node 0 ≡ get_or labels w.goal 0 = ap (λ u. get_or labels u 0) same in
      let high : w.rest ≡ length w.slots = omega (arith, none, walked-label, ap (λ u. get_or labels u 0) arrives, way.order, way.within) in
      let empty : places_of (rest_slots w) ≡ [] = nil_from_length (places_of (rest_slots w))
      (length-map (rest_slots w) (λ s. s.place) ∙ length-drop w.rest w.slots ∙ omega (arith, high)) in
      other (same ∙ sym way.ends ∙ ap (λ ps. end_of l w.joint ps) empty)

  module _ (links : AreLinks l) (start : IsNode l.nodes w.start) where
    -- The links of both parts descend.
    descends-walked : Descends l labels (get_or labels w.start 0) (get_or labels walk_end 0) (places_of (walked_slots w))
    descends-walked = descends-trail l labels rooms current w.start (places_of (walked_slots w)) links start way.walking.trail_is

    descends-rest : Descends l labels (get_or labels w.joint 0) 0 (places_of (rest_slots w))
    descends-rest =
        descends-lowered l labels (get_or labels w.joint 0) (get_or labels (end_of l w.joint (places_of (rest_slots w))) 0) 0 (places_of (rest_slots w)) (omega arith)
        (descends-trail l labels rooms current w.joint (places_of (rest_slots w)) links way.joint_is way.rest_is)

    -- So all links in slots do.
    pub descends-way : Descends l labels (get_or labels w.start 0) 0 (places_of (walked_slots w) ++ places_of (rest_slots w))
    descends-way =
        descends-append l labels (get_or labels w.start 0) (get_or labels walk_end 0) 0 (places_of (walked_slots w)) (places_of (rest_slots w)) descends-walked
        (descends-raised l labels (get_or labels w.joint 0) (get_or labels walk_end 0) 0 (places_of (rest_slots w)) joint-low descends-rest)

    -- A link that falls from the walk's end is free.
    pub is-free : {node p : ℕ} → IsNode l.nodes node → walk_end ≡ node → node ≢ w.joint → LiesAt l node p
        → get_or labels (get_or l.heads p 0) 0 + 1 ≡ get_or labels node 0 → IsFree l w p
    is-free {node} {p} is_node arrives other lies falls =
        let within = lies-within l node p links is_node lies in
        let tail : tail_of l p ≡ node = links.at_tail node p is_node lies in
        let here : get_or labels walk_end 0 ≡ get_or labels (tail_of l p) 0 = ap (λ u. get_or labels u 0) (arrives ∙ sym tail) in
        record {
          within = within;
          walked = off-below l labels (get_or labels w.start 0) (get_or labels walk_end 0) p (places_of (walked_slots w)) descends-walked (omega (arith, here));
          rest = off-trail labels rooms current (places_of (rest_slots w)) p links way.joint_is way.rest_is (λ e. other (sym e))
              (omega (arith, joint-low, ap (λ u. get_or labels u 0) arrives)) tail;
          partner = rw places-append (off-partner l labels (get_or labels w.start 0) 0 p (places_of (walked_slots w) ++ places_of (rest_slots w)) links within
              (falls ∙ ap (λ u. get_or labels u 0) (sym tail)) descends-way);
        }
