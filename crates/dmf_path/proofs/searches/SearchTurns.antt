-- What a search keeps, from one call to the next.
use Rattle.std.proofs.Common.{ℕ, ◌≡◌, ◌≢◌, ◌+◌, ◌^◌, ◌<◌, ◌≤◌, List, [], length, get_or, refl, ap, sym, ◌∙◌, subst, arith}
use Rattle.std.proofs.lemmas.List.{length-drop, nil_from_length, drop_all}
use Rattle.dmf_path.specs.declared.trail.Slot.{Slot}
use Rattle.dmf_node.specs.Node.{IsNode}
use Rattle.dmf_links.specs.Links.{AreLinks, AreRooms}
use Rattle.dmf_path.specs.Walk.{AreCurrent, ArePassed, end_of}
use Rattle.dmf_path.specs.Held.{Way, places_of, rest_slots, filled_slots, emptied, with_slots}
use Rattle.dmf_path.specs.Residual.{ResidualLinks, roomed, with_settled_rooms}
use Rattle.dmf_path.specs.BothEnds.{AreSound}
use Rattle.dmf_path.specs.Searching.{IsUnderWay, Labelling, Sought, sought, IsAimed, IsSearching, IsFresh, fresh_labels}
use Rattle.dmf_path.proofs.searches.Beginning.{BeginsFresh, begins-fresh, passed-fresh, sound-fresh}
use Rattle.dmf_path.proofs.slots.Settled.{AreRooms-settled}
use Rattle.dmf_path.proofs.slots.Settling.{told-free, holding-free, way-free}

-- the network of a search that holds no push
abbrev pub plainly : ResidualLinks → Way → Sought
plainly r w = record { residual = r; start = w.start; goal = w.goal }

-- Where a search is aimed, it is so with other sound labels, and with other rooms.
pub aimed-with : (r : ResidualLinks) (w : Way) {old labels rooms : List ℕ} → IsAimed (sought r w) old w.capacity → get_or labels w.start 0 ≤ r.links.nodes
    → AreSound r.links labels rooms (get_or labels w.start 0) → IsAimed (plainly (roomed r rooms) w) labels w.capacity
aimed-with r w is start_label sound = record {
  links = is.links;
  one_label_each = sound.small.0;
  start_label = start_label;
  sound = sound;
  start_is = is.start_is;
  goal_is = is.goal_is;
  apart = is.apart;
  capacity_is = is.capacity_is;
}

-- With free slots, and if no link is passed that leads to the goal, a search begins.
pub searching-free : (r : ResidualLinks) (v : Labelling) (w : Way) (slots : List Slot) → IsAimed (plainly r w) v.labels w.capacity
    → AreRooms r.links r.rooms → w.sent < 2 ^ 64 → AreCurrent r.links v.current → ArePassed r.links v.labels r.rooms w.goal v.current
    → length slots + get_or v.labels w.goal 0 ≡ get_or v.labels w.start 0 → IsSearching r v (with_slots w slots)
searching-free r v w slots aimed sums small current passed count =
    let free : with_settled_rooms r (with_slots w slots) ≡ r = told-free r w slots in
    record {
      aimed = subst (λ (x : ResidualLinks). IsAimed (plainly x w) v.labels w.capacity) (sym free) aimed;
      holding = holding-free r.links w slots r.rooms sums small;
      under_way = subst (λ (x : ResidualLinks). IsUnderWay r.links v.labels x.rooms v.current (with_slots w slots)) (sym free)
          (way-free v.labels r.rooms w slots aimed.goal_is current passed count);
    }

-- If no link falls from the start, a search begins anew.
searching-fresh : (r : ResidualLinks) (v : Labelling) (w : Way) → AreLinks r.links → AreRooms r.links r.rooms → w.sent < 2 ^ 64
    → IsNode r.links.nodes w.start → IsNode r.links.nodes w.goal → w.start ≢ w.goal → r.links.nodes ≤ w.capacity
    → BeginsFresh r.links v.labels w.start w.goal → AreCurrent r.links v.current → IsSearching r v (with_slots w [])
searching-fresh r v w links sums small start goal apart capacity begins current =
    let aimed : IsAimed (plainly r w) v.labels w.capacity = record {
      links = links;
      one_label_each = begins.long;
      start_label = omega (arith, begins.fresh.label);
      sound = sound-fresh r.links v.labels r.rooms w.start begins.long begins.fresh;
      start_is = start;
      goal_is = goal;
      apart = apart;
      capacity_is = capacity;
    } in
    searching-free r v w [] aimed sums small current (passed-fresh r.links v.labels r.rooms w.start w.goal v.current links begins.fresh)
    (omega (arith, begins.fresh.label, begins.goal_label))

-- With fresh labels and no slots a search begins anew between two nodes.
pub searching-new : {r : ResidualLinks} (v : Labelling) (w : Way) {new : Way} → AreLinks r.links → AreRooms r.links r.rooms → w.sent < 2 ^ 64
    → IsNode r.links.nodes w.start → IsNode r.links.nodes w.goal → w.start ≢ w.goal → r.links.nodes ≤ w.capacity
    → v.labels ≡ fresh_labels r.links.nodes w.start w.goal → AreCurrent r.links v.current → new ≡ with_slots w []
    → IsSearching r v new × IsFresh r.links v.labels new.start
searching-new {r} v w links sums small start goal apart capacity labelled current way =
    let begins = subst (λ ls. BeginsFresh r.links ls w.start w.goal) (sym labelled) (begins-fresh r.links w.start w.goal start goal apart) in
    rw way (searching-fresh r v w links sums small start goal apart capacity begins current, begins.fresh)

-- A search that goes on can do so too, with the current links of any labels.
pub searching-anew : {r : ResidualLinks} {v : Labelling} {w : Way} (labelling : Labelling) {start goal : ℕ} {new : Way} → IsSearching r v w
    → IsNode r.links.nodes start → IsNode r.links.nodes goal → start ≢ goal
    → labelling.labels ≡ fresh_labels r.links.nodes start goal → AreCurrent r.links labelling.current
    → new ≡ with_slots (record w { start = start; goal = goal }) [] → IsSearching r labelling new × IsFresh r.links labelling.labels new.start
searching-anew {w} labelling {start} {goal} is at_start at_goal apart = searching-new labelling (record w { start = start; goal = goal })
    is.aimed.links is.holding.rooms_are is.holding.small at_start at_goal apart is.aimed.capacity_is

-- After all links have left, the search goes on,
pub searching-settled : {r : ResidualLinks} {v : Labelling} {w : Way} {next : ResidualLinks} {new : Way} → IsSearching r v w → next ≡ with_settled_rooms r w → new ≡ emptied w
    → IsSearching next v new
searching-settled {r} {v} {w} is links way =
    let u = is.under_way in
    rw (links, way) (searching-free (with_settled_rooms r w) v w w.slots is.aimed
    (AreRooms-settled r.links r.takes_back w.sent (filled_slots w) r.rooms is.aimed.links is.holding.rooms_are) is.holding.small
    u.walking.current_is u.walking.passed u.one_slot_each)

-- and has the same network and ends.
pub plainly-settled : (r : ResidualLinks) (w : Way) {next : ResidualLinks} {new : Way} → next ≡ with_settled_rooms r w → new ≡ emptied w → plainly next new ≡ sought r w
plainly-settled r w links way = λ i. plainly (links i) (way i)

-- With free slots it looks for paths in the rooms as they are.
pub sought-free : (r : ResidualLinks) (w : Way) {new : Way} (slots : List Slot) → new ≡ with_slots w slots → sought r new ≡ plainly r w
sought-free r w slots way = ap (sought r) way ∙ ap (λ (x : ResidualLinks). plainly x w) (told-free r w slots)

-- Once all is put on, the rooms are as they are told.
pub told-settled : (w : Way) (next : ResidualLinks) {new : Way} → new ≡ emptied w → with_settled_rooms next new ≡ next
told-settled w next way = ap (with_settled_rooms next) way ∙ told-free next w w.slots

-- No link is in a slot then.
pub free-settled : (w : Way) {new : Way} → new ≡ emptied w → filled_slots new ≡ []
free-settled w way = ap filled_slots way ∙ drop_all (length w.slots) w.slots (omega arith)

-- What is sought stays the same when all is put on.
pub sought-settled : (r : ResidualLinks) (w : Way) {next : ResidualLinks} {new : Way} → next ≡ with_settled_rooms r w → new ≡ emptied w → sought next new ≡ sought r w
sought-settled r w links way = (λ i. sought (links i) (way i)) ∙ sought-free (with_settled_rooms r w) w w.slots refl

-- A fresh search keeps no slots,
fresh-way : {r : ResidualLinks} {v : Labelling} {w : Way} → IsSearching r v w → IsFresh r.links v.labels w.start → w ≡ with_slots w []
fresh-way {r} {w} is is_fresh =
    let way = is.under_way in
    let none : length w.slots ≡ 0 = omega (arith, way.one_slot_each, is_fresh.label) in
    let slots : w.slots ≡ [] = nil_from_length w.slots none in
    let rest : rest_slots w ≡ [] = nil_from_length (rest_slots w) (omega (arith, length-drop w.rest w.slots, none)) in
    let walked : w.walked ≡ 0 = omega (arith, way.order, way.within, none) in
    let behind : w.rest ≡ 0 = omega (arith, way.within, none) in
    let joint : w.joint ≡ w.goal = sym (ap (λ (ss : List Slot). end_of r.links w.joint (places_of ss)) rest) ∙ way.ends in
    λ i. record w { slots = slots i; walked = walked i; rest = behind i; joint = joint i }

-- it holds no push,
pub told-fresh : {r : ResidualLinks} {v : Labelling} {w : Way} (other : ResidualLinks) → IsSearching r v w → IsFresh r.links v.labels w.start → with_settled_rooms other w ≡ other
told-fresh {w} other is is_fresh = ap (with_settled_rooms other) (fresh-way is is_fresh) ∙ told-free other w []

-- and it goes on over any links between as many nodes.
pub searching-over : {r : ResidualLinks} {v : Labelling} {w : Way} (next : ResidualLinks) {current : List ℕ} → IsSearching r v w → IsFresh r.links v.labels w.start
    → next.links.nodes ≡ r.links.nodes → AreLinks next.links → AreRooms next.links next.rooms → AreCurrent next.links current
    → IsSearching next (record { labels = v.labels; current = current }) w × IsFresh next.links v.labels w.start
searching-over {v} {w} next {current} is is_fresh same links sums at_first =
    let a = is.aimed in
    let other : Labelling = record { labels = v.labels; current = current } in
    let still : IsFresh next.links v.labels w.start = record {
      label = is_fresh.label;
      others = λ x h. is_fresh.others x (subst (λ (m : ℕ). IsNode m x) same h);
    } in
    let begins : BeginsFresh next.links v.labels w.start w.goal = record {
      long = omega (arith, a.one_label_each, same);
      goal_label = omega (arith, is.under_way.one_slot_each, is_fresh.label);
      fresh = still;
    } in (
      subst (IsSearching next other) (sym (fresh-way is is_fresh)) (searching-fresh next other w links sums is.holding.small (rw same a.start_is)
          (rw same a.goal_is) a.apart (omega (arith, same, a.capacity_is)) begins at_first),
      still,
    )
