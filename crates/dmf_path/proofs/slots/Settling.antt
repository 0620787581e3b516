-- All links leave, and no push is held any more.
use Rattle.std.proofs.Common.{ℕ, ◌≡◌, ◌+◌, ◌^◌, ◌<◌, Bool, List, [], ◌++◌, length, drop, get_or, ap, sym, ◌∙◌, subst, arith}
use Rattle.std.proofs.lemmas.List.{append-nil, drop_all}
use Rattle.dmf_path.specs.declared.trail.Slot.{Slot}
use Rattle.dmf_node.specs.Node.{IsNode}
use Rattle.dmf_links.specs.Links.{Links, AreRooms}
use Rattle.dmf_path.specs.Walk.{AreCurrent, ArePassed, IsTrail, end_of}
use Rattle.dmf_path.specs.Held.{Way, places_of, walked_slots, rest_slots, settled, rooms_with, HaveLeft, put_each, with_slots}
use Rattle.dmf_path.specs.Residual.{ResidualLinks, roomed, with_settled_rooms, CanSettle}
use Rattle.dmf_path.specs.Searching.{IsUnderWay, IsHolding, Labelling, IsSearching}
use Rattle.dmf_path.proofs.labels.Descending.{Descends, descends-behind}
use Rattle.dmf_path.proofs.slots.Settled.{places-append, settled-none}
use Rattle.dmf_path.proofs.slots.Leaving.{have-all-left}
use Rattle.dmf_path.proofs.walks.SoFar.{descends-way}

-- The pushes that a search holds can be applied.
pub can-settle : {r : ResidualLinks} {v : Labelling} {w : Way} → IsSearching r v w → CanSettle r w
can-settle {r = r} {v = v} {w = w} is =
    let l : Links = r.links in
    let labels : List ℕ = v.labels in
    let top : ℕ = get_or labels w.start 0 in
    let links = is.aimed.links in
    let whole = descends-way is.under_way links is.aimed.start_is in
    let first = have-all-left r.takes_back labels w.sent top 0 [] (walked_slots w) (rest_slots w) r.rooms links is.holding.rooms_are.0
    (subst (Descends l labels top 0) (sym (places-append (walked_slots w) (rest_slots w))) whole) is.holding.have in
    let none : rest_slots w ++ [] ≡ rest_slots w = append-nil (rest_slots w) in
    let between : List ℕ = put_each l r.takes_back w.sent (walked_slots w) r.rooms in
    let low : Descends l labels top 0 (places_of (rest_slots w)) = descends-behind l labels top 0 (places_of (walked_slots w))
    (places_of (rest_slots w)) whole in
    let later = have-all-left r.takes_back labels w.sent top 0 [] (rest_slots w) [] between links first.long
    (subst (λ (ss : List Slot). Descends l labels top 0 (places_of ss)) (sym none) low)
    (subst (HaveLeft w.sent between) (sym none) first.have) in
    record {
      walked = first.can;
      rest = later.can;
      same = first.same ∙ ap (λ (ss : List Slot). settled l r.takes_back w.sent ss between) (sym none) ∙ later.same
          ∙ settled-none l r.takes_back w.sent (put_each l r.takes_back w.sent (rest_slots w) between);
    }

-- With free slots nothing is held,
pub rooms_with-free : (l : Links) (takes_back : Bool) (w : Way) (slots : List Slot) (rooms : List ℕ)
    → rooms_with l takes_back (with_slots w slots) rooms ≡ rooms
rooms_with-free l takes_back w slots rooms =
    ap (λ (ss : List Slot). settled l takes_back w.sent ss rooms) (drop_all (length slots) slots (omega arith)) ∙ settled-none l takes_back w.sent rooms

-- so the rooms are told as they are,
pub told-free : (r : ResidualLinks) (w : Way) (slots : List Slot) → with_settled_rooms r (with_slots w slots) ≡ r
told-free r w slots = ap (roomed r) (rooms_with-free r.links r.takes_back w slots r.rooms)

-- and this fits any rooms of the links.
pub holding-free : (l : Links) (w : Way) (slots : List Slot) (rooms : List ℕ) → AreRooms l rooms → w.sent < 2 ^ 64 → IsHolding l (with_slots w slots) rooms
holding-free l w slots rooms sums small = record {
  rooms_are = sums;
  small = small;
  have = subst (HaveLeft w.sent rooms) (sym (drop_all (length slots) slots (omega arith))) tt;
}

-- and the walk begins, if no link is passed that leads to the goal.
pub way-free : {l : Links} (labels after : List ℕ) {current : List ℕ} (w : Way) (slots : List Slot) → IsNode l.nodes w.goal → AreCurrent l current
    → ArePassed l labels after w.goal current
    → length slots + get_or labels w.goal 0 ≡ get_or labels w.start 0 → IsUnderWay l labels after current (with_slots w slots)
way-free {l} labels after {current} w slots goal current_is passed count =
    let none : drop (length slots) slots ≡ [] = drop_all (length slots) slots (omega arith) in
    record {
      walking = record { current_is = current_is; passed = passed; trail_is = tt };
      rest_is = subst (λ (ss : List Slot). IsTrail l labels after current w.goal (places_of ss)) (sym none) tt;
      ends = ap (λ (ss : List Slot). end_of l w.goal (places_of ss)) none;
      joint_is = goal;
      order = omega arith;
      within = omega arith;
      one_slot_each = count;
    }
