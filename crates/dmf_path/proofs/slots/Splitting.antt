-- Splitting a path at its full links: the links before and after them become the walk and the rest.
use Rattle.std.proofs.Common.{ℕ, ◌≡◌, ◌≢◌, ◌+◌, ◌-◌, ◌<◌, ◌≤◌, List, [], ◌∷◌, ◌++◌, length, take, drop, get_or, ap, sym, ◌∙◌, subst, arith, inl, inr}
use Rattle.std.proofs.lemmas.Bool.{cases_lt}
use Rattle.std.proofs.lemmas.List.{take-append-drop, drop-drop, take-map, get_or-map, get_or-take, get_or-drop, length-take, length-drop, length-map}
use Rattle.std.specs.List.{All}
use Rattle.dmf_path.specs.declared.trail.Slot.{Slot}
use Rattle.dmf_node.specs.Node.{IsNode}
use Rattle.dmf_links.specs.Links.{AreRooms}
use Rattle.dmf_path.specs.Walk.{IsTrail, end_of}
use Rattle.dmf_path.specs.Held.{Way, places_of, settled, AreOpen, HaveLeft, slot_at, put_each}
use Rattle.dmf_path.specs.Residual.{ResidualLinks, roomed, with_settled_rooms, SplitsAtFull, stays, split_at}
use Rattle.dmf_path.specs.Searching.{Labelling, sought, IsUnderWay, IsAimed, IsHolding, IsSearching, IsFound}
use Rattle.dmf_path.proofs.walks.Walking.{IsTrail-split, end_of-append, end-node}
use Rattle.dmf_path.proofs.labels.Gated.{sound-opens}
use Rattle.dmf_path.proofs.rooms.Pushed.{IsTrail-open, IsTrail-take, ArePassed-opens}
use Rattle.dmf_path.proofs.labels.Descending.{Descends}
use Rattle.dmf_path.proofs.slots.Settled.{places-append}
use Rattle.dmf_path.proofs.slots.SettledSent.{HaveLeft-sent}
use Rattle.dmf_path.proofs.slots.Leaving.{HaveAllLeft, have-all-left}
use Rattle.dmf_path.proofs.slots.WholePath.{slot-open}
use Rattle.dmf_path.proofs.slots.TurnSlots.{last-places}
use Rattle.dmf_path.proofs.searches.SearchTurns.{plainly, aimed-with}
use Rattle.dmf_path.proofs.searches.Searching.{sent_on, sent_along, CanAugment}

-- What a search has after the path is split, and its network and ends.
pub record IsOn (r : ResidualLinks) (v : Labelling) (w : Way) (amount : ℕ) (next : ResidualLinks) (new : Way) : Type 0 where
  pub searching : IsSearching next v new
  pub same : sought next new ≡ plainly (sent_along r (sent_on w amount)) w

module _ {r : ResidualLinks} {places : List ℕ} {v : Labelling} {w : Way} {limit amount : ℕ} (is : IsSearching r v w) (joins : IsFound r w)
    (can : CanAugment r places v w limit amount) where
  -- the total that is sent, and the rooms once all of it is put on
  abbrev sent : ℕ
  sent = (sent_on w amount).sent

  abbrev after : List ℕ
  after = (sent_along r (sent_on w amount)).rooms

  -- The slots have links, with what is left in them.
  have : HaveLeft sent r.rooms w.slots
  have = HaveLeft-sent w.sent amount r.rooms w.slots is.holding.small can.can can.have

  -- Links whose slots are among these, and not full, have room.
  some-open : (part : List Slot) (at : ℕ → ℕ)
      → ((k : ℕ) → k < length part → (at k < length w.slots) × (slot_at part k ≡ slot_at w.slots (at k)) × ((slot_at w.slots (at k)).full_at ≢ sent))
      → All (λ p. 0 < get_or after p 0) (places_of part)
  some-open part at each k d inside =
      let below : k < length part = omega (arith, inside, length-map part (λ (s : Slot). s.place)) in
      let here = each k below in
      let read : get_or (places_of part) k d ≡ (slot_at w.slots (at k)).place =
      get_or-map (λ (s : Slot). s.place) part k (record { place = 0; full_at = 0 }) d below ∙ ap (λ (s : Slot). s.place) here.1 in
      let room = slot-open r.links v.labels (get_or v.labels w.start 0) 0 w.slots (at k) can.descends here.0 r.takes_back sent r.rooms is.aimed.links
      is.holding.rooms_are.0 have (omega arith) here.2 in
      omega (arith, room, ap (λ p. get_or after p 0) read)

  -- The links from index `first` on, before `behind`, can leave.
  pub middle-leaves : (first behind : ℕ) → first < behind
      → (w.slots ≡ take first w.slots ++ (take (behind - first) (drop first w.slots) ++ drop behind w.slots))
      × HaveAllLeft r.links r.takes_back sent (take first w.slots) (take (behind - first) (drop first w.slots)) (drop behind w.slots) r.rooms
  middle-leaves first behind less =
      let middle : List Slot = take (behind - first) (drop first w.slots) in
      let last : drop (behind - first) (drop first w.slots) ≡ drop behind w.slots =
      drop-drop (behind - first) first w.slots ∙ ap (λ n. drop n w.slots) (let sum : first + (behind - first) ≡ behind = omega (arith, less) in sum) in
      let parts : w.slots ≡ take first w.slots ++ (middle ++ drop behind w.slots) =
      sym (take-append-drop first w.slots) ∙ ap (λ (ss : List Slot). take first w.slots ++ ss)
      (sym (take-append-drop (behind - first) (drop first w.slots)) ∙ ap (λ (ss : List Slot). middle ++ ss) last) in (
        parts,
        have-all-left r.takes_back v.labels sent (get_or v.labels w.start 0) 0 (take first w.slots) middle (drop behind w.slots) r.rooms is.aimed.links
            is.holding.rooms_are.0
            (subst (Descends r.links v.labels (get_or v.labels w.start 0) 0)
            (ap places_of parts ∙ places-append (take first w.slots) (middle ++ drop behind w.slots)) can.descends)
            (subst (HaveLeft sent r.rooms) parts have),
      )

  -- the path cut in two, where those of its links that come before `behind` lead to this joint
  abbrev cut : ℕ → ℕ → ℕ → Way
  cut first behind joint = record (sent_on w amount) { walked = first; rest = behind; joint = joint }

  -- With the open links before `first` and from `behind` on, the search goes on.
  is-on : (first behind joint : ℕ) (rooms : List ℕ) → IsNode r.links.nodes joint → first ≤ behind → behind ≤ length w.slots
      → AreOpen sent w.slots first behind → end_of r.links w.start (places_of (take behind w.slots)) ≡ joint
      → IsHolding r.links (cut first behind joint) rooms → with_settled_rooms (roomed r rooms) (cut first behind joint) ≡ sent_along r (sent_on w amount)
      → IsOn r v w amount (roomed r rooms) (cut first behind joint)
  is-on first behind joint rooms joint_is order within open_links joined holding same =
      let before : List ℕ = (with_settled_rooms r w).rooms in
      let links = is.aimed.links in
      let front : List ℕ = places_of (take behind w.slots) in
      let rest : List ℕ = places_of (drop behind w.slots) in
      let whole : places_of w.slots ≡ front ++ rest =
      ap places_of (sym (take-append-drop behind w.slots)) ∙ places-append (take behind w.slots) (drop behind w.slots) in
      let way : IsUnderWay r.links v.labels after v.current (cut first behind joint) = record {
        walking = record {
          current_is = is.under_way.walking.current_is;
          passed = ArePassed-opens r.links v.labels before after w.goal v.current links can.opens is.under_way.walking.passed;
          trail_is = IsTrail-open r.links v.labels before after v.current w.start (places_of (take first w.slots))
              (subst (IsTrail r.links v.labels before v.current w.start) (take-map (λ (s : Slot). s.place) first w.slots)
              (IsTrail-take r.links v.labels before v.current w.start first (places_of w.slots) can.whole.trail))
              (some-open (take first w.slots) (λ k. k) (λ k inside.
              let below : (k < first) × (k < length w.slots) =
              (omega (arith, inside, length-take first w.slots), omega (arith, inside, length-take first w.slots)) in
              (below.1, get_or-take first w.slots k _ below.0, open_links.before k below.0)));
        };
        rest_is = IsTrail-open r.links v.labels before after v.current joint rest
            (subst (λ u. IsTrail r.links v.labels before v.current u rest) joined
            (IsTrail-split r.links v.labels before v.current w.start front rest
            (subst (IsTrail r.links v.labels before v.current w.start) whole can.whole.trail)).1)
            (some-open (drop behind w.slots) (λ k. behind + k) (λ k inside.
            let below : behind + k < length w.slots = omega (arith, inside, length-drop behind w.slots) in
            (below, get_or-drop behind w.slots k _, open_links.after (behind + k) (omega arith) below)));
        ends = ap (λ u. end_of r.links u rest) (sym joined) ∙ sym (end_of-append r.links w.start front rest) ∙ ap (end_of r.links w.start) (sym whole)
            ∙ can.whole.ends;
        joint_is = joint_is;
        order = order;
        within = within;
        one_slot_each = is.under_way.one_slot_each;
      } in
      let aimed = aimed-with r w is.aimed is.aimed.start_label
      (sound-opens r.links v.labels before after (get_or v.labels w.start 0) links can.opens is.aimed.sound) in
      record {
        searching = record {
          aimed = subst (λ (x : ResidualLinks). IsAimed (plainly x w) v.labels w.capacity) (sym same) aimed;
          holding = holding;
          under_way = subst (λ (x : ResidualLinks). IsUnderWay r.links v.labels x.rooms v.current (cut first behind joint)) (sym same) way;
        };
        same = ap (λ (x : ResidualLinks). plainly x w) same;
      }

  -- Once the path is split, the search goes on with what is left.
  pub split-on : {next : ResidualLinks} {new : Way} → SplitsAtFull r (sent_on w amount) next new → AreRooms next.links next.rooms → IsOn r v w amount next new
  split-on (stays first behind none open_links same kept) sums =
      let way = is.under_way in
      let whole = can.whole in
      let not_full : (i : ℕ) → i < length w.slots → (slot_at w.slots i).full_at ≢ sent = λ i inside. elim (cases_lt i first) [
        | inl early ↦ open_links.before i early
        | inr late ↦ open_links.after i (omega (arith, late, none)) inside
      ] in
      let open_at : AreOpen sent w.slots w.walked w.rest = record {
        before = λ i below. not_full i (omega (arith, below, whole.meets, way.within));
        after = λ i from inside. not_full i inside;
      } in
      rw (same, kept)
      (is-on w.walked w.rest w.joint r.rooms way.joint_is (omega (arith, whole.meets)) way.within open_at
      (ap (λ n. end_of r.links w.start (places_of (take n w.slots))) (sym whole.meets) ∙ joins)
      (record { rooms_are = is.holding.rooms_are; small = omega arith; have = subst (HaveLeft sent r.rooms) (sym whole.filled) have })
      (ap (λ (ss : List Slot). roomed r (settled r.links r.takes_back sent ss r.rooms)) whole.filled))
  split-on (split_at first behind less within open_links same kept) sums =
      let left = middle-leaves first behind less in
      let before : List ℕ = (with_settled_rooms r w).rooms in
      let p : ℕ = (slot_at w.slots (behind - 1)).place in
      let last = last-places (record w { walked = behind }) (omega (arith, less)) within in
      let joined : end_of r.links w.start (places_of (take behind w.slots)) ≡ get_or r.links.heads p 0 =
      ap (end_of r.links w.start) last ∙ end_of-append r.links w.start (places_of (take (behind - 1) w.slots)) (p ∷ []) in
      let joint : IsNode r.links.nodes (get_or r.links.heads p 0) =
      subst (IsNode r.links.nodes) (ap (end_of r.links w.start) (take-map (λ (s : Slot). s.place) behind w.slots) ∙ joined)
      (end-node v.labels before v.current w.start (take behind (places_of w.slots)) is.aimed.links is.aimed.start_is
      (IsTrail-take r.links v.labels before v.current w.start behind (places_of w.slots) can.whole.trail)) in
      rw (same, kept)
      (is-on first behind (get_or r.links.heads p 0) (put_each r.links r.takes_back sent (take (behind - first) (drop first w.slots)) r.rooms) joint
      (omega (arith, less)) within open_links joined
      (record { rooms_are = subst (λ (x : ResidualLinks). AreRooms x.links x.rooms) kept sums; small = omega arith; have = left.1.have })
      (ap (roomed r) (sym left.1.same ∙ ap (λ (ss : List Slot). settled r.links r.takes_back sent ss r.rooms) (sym left.0))))
