-- The node from which the walk goes on: the start, or the head of its last link.
use Rattle.std.proofs.Common.{ℕ, ◌≡◌, ◌-◌, ◌<◌, ◌≤◌, List, [], ◌∷◌, length, take, get_or, refl, ap, sym, ◌∙◌, subst, inl, inr, arith}
use Rattle.std.proofs.lemmas.Bool.{cases_lt}
use Rattle.dmf_node.specs.Node.{IsNode}
use Rattle.dmf_links.specs.Links.{Links, AreLinks}
use Rattle.dmf_path.specs.Walk.{IsTrail, end_of}
use Rattle.dmf_path.specs.Held.{Way, places_of, walked_slots, slot_at}
use Rattle.dmf_path.specs.Residual.{ResidualLinks, with_settled_rooms}
use Rattle.dmf_path.specs.Searching.{IsUnderWay, Labelling, Sought, sought, IsAimed, IsSearching}
use Rattle.dmf_links.proofs.tables.LinkPlaces.{lies-within}
use Rattle.dmf_path.proofs.walks.Walking.{IsTrail-split, end_of-append, end-node}
use Rattle.dmf_path.proofs.slots.TurnSlots.{IsOnWay, last-places}

-- The last link of the walk is one.
pub last-link_within : {l : Links} (labels after current : List ℕ) (w : Way) → AreLinks l → IsNode l.nodes w.start → w.walked ≤ length w.slots
    → IsTrail l labels after current w.start (places_of (walked_slots w)) → 0 < w.walked → (slot_at w.slots (w.walked - 1)).place < length l.heads
last-link_within {l} labels after current w links start within trail some =
    let front : List ℕ = places_of (take (w.walked - 1) w.slots) in
    let before = IsTrail-split l labels after current w.start front ((slot_at w.slots (w.walked - 1)).place ∷ [])
    (subst (IsTrail l labels after current w.start) (last-places w some within) trail) in
    lies-within l (end_of l w.start front) _ links (end-node labels after current w.start front links start before.0) before.1.0.lies

-- the last node of the walk: its start, or the head of its last link
pub walk-end : (l : Links) (w : Way) (node : ℕ) → w.walked ≤ length w.slots → (w.walked ≡ 0 → node ≡ w.start)
    → (0 < w.walked → node ≡ get_or l.heads (slot_at w.slots (w.walked - 1)).place 0) → end_of l w.start (places_of (walked_slots w)) ≡ node
walk-end l w node within first last = elim (cases_lt 0 w.walked) [
  | inl some ↦ ap (λ ps. end_of l w.start ps) (last-places w some within)
      ∙ end_of-append l w.start (places_of (take (w.walked - 1) w.slots)) ((slot_at w.slots (w.walked - 1)).place ∷ []) ∙ sym (last some)
  | inr none ↦
      let empty : w.walked ≡ 0 = omega (arith, none) in
      ap (λ n. end_of l w.start (places_of (take n w.slots))) empty ∙ sym (first empty)
]

-- The walk has come to this node.
pub on-start : {r : ResidualLinks} {v : Labelling} {w : Way} (node : ℕ) → IsSearching r v w → (w.walked ≡ 0 → node ≡ w.start)
    → (0 < w.walked → node ≡ get_or r.links.heads (slot_at w.slots (w.walked - 1)).place 0) → IsOnWay r v.labels v.current (with_settled_rooms r w) w node
on-start {r} {v} {w} node is first last =
    let l : Links = r.links in
    let way = is.under_way in
    let arrives : end_of l w.start (places_of (walked_slots w)) ≡ node = walk-end l w node (omega (arith, way.order, way.within)) first last in
    record {
      come = record {
        walking = way.walking;
        arrives = arrives;
        is_node = subst (IsNode l.nodes) arrives
            (end-node v.labels (with_settled_rooms r w).rooms v.current w.start (places_of (walked_slots w)) is.aimed.links is.aimed.start_is way.walking.trail_is);
      };
      way = way;
      holding = is.holding;
      same = refl;
    }

-- A search after a walk, if its ends and its memory for slots are the same as before.
pub searching-on : {r : ResidualLinks} {v : Labelling} {w : Way} {next : ResidualLinks} {current : List ℕ} {new : Way} {node : ℕ} → IsSearching r v w
    → IsOnWay next v.labels current (with_settled_rooms r w) new node → new.start ≡ w.start → new.goal ≡ w.goal → new.capacity ≡ w.capacity
    → IsSearching next (record { labels = v.labels; current = current }) new
searching-on {r} {v} {w} {next} {current} {new} is on start goal capacity =
    let same : sought next new ≡ sought r w = λ i. record { residual = on.same i; start = start i; goal = goal i } in
    record {
      aimed = subst (IsAimed (sought next new) v.labels) (sym capacity) (subst (λ (s : Sought). IsAimed s v.labels w.capacity) (sym same) is.aimed);
      holding = on.holding;
      under_way = subst (λ (x : ResidualLinks). IsUnderWay next.links v.labels x.rooms current new) (sym on.same) on.way;
    }
