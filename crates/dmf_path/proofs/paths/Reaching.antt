-- A node has a label if and only if a path reaches it.
use Rattle.std.proofs.Common.{ℕ, ◌≡◌, ◌≢◌, ◌+◌, ◌<◌, ◌↔◌, ◌==◌, Bool, true, false, List, [], ◌∷◌, ◌++◌, length, get_or, map, zero, suc, refl, ap, sym}
use Rattle.std.proofs.Common.{inl, inr, subst, ◌∙◌, arith, eq-eqb}
use Rattle.std.proofs.lemmas.Bool.{cases_eq, ne_eqb, eqb-true}
use Rattle.std.proofs.lemmas.List.{get_or-map}
use Rattle.dmf_node.specs.Node.{IsNode}
use Rattle.dmf_path.specs.Path.{HasNoPath, IsReachable}
use Rattle.dmf_path.specs.Pair.{steps_of}
use Rattle.dmf_links.specs.Links.{Links, LiesAt, AreLinks, ArePlaces, AreRooms, AreFlags, open_flag, pairs_at, tail_of}
use Rattle.dmf_path.specs.Labels.{AreLabels, MarksLabelled, MarksUnlabelled, no_label, is_label}
use Rattle.dmf_path.specs.Searching.{IsClosed, IsSeparated, IsParted}
use Rattle.dmf_links.proofs.rooms.Flags.{room-of_flag, flag-of_room}
use Rattle.dmf_links.proofs.tables.LinkPlaces.{lies-within}
use Rattle.dmf_path.proofs.labels.Labelled.{valid-labelled}
use Rattle.dmf_path.proofs.labels.Roots.{first-root, one-root}
use Rattle.dmf_path.proofs.paths.Steps.{path_on}
use Rattle.dmf_path.proofs.paths.OpenPaths.{IsOpenPath, head-node, path-of_links, links-of_path}

-- ---- sets of nodes that no link with room leaves

-- What a path reaches from a node of such a set is in the set.
inside-on_path : {l : Links} (rooms : List ℕ) (inside : ℕ → Bool) (u v : ℕ) (ps : List ℕ) → AreLinks l → IsClosed l rooms inside → IsNode l.nodes u
    → inside u ≡ true → IsOpenPath l rooms v u ps → inside v ≡ true
inside-on_path rooms inside u v [] links closed node within leads = sym (ap inside leads) ∙ within
inside-on_path {l = l} rooms inside u v (p ∷ ps) links closed node within leads =
    inside-on_path rooms inside (get_or l.heads p 0) v ps links closed (head-node l u p links node leads.0) (closed u p node leads.0 leads.1 within) leads.2

-- No path leads out of such a set, if it has the start and not the goal.
pub no_path-separated : (l : Links) (places rooms : List ℕ) (start goal : ℕ) → AreLinks l → ArePlaces l places → IsNode l.nodes start
    → IsSeparated l rooms start goal → HasNoPath (steps_of (pairs_at l places rooms)) start goal
no_path-separated l places rooms start goal links places_are node separated path leads =
    let on = links-of_path l places rooms goal start path links places_are leads in
    let reached = inside-on_path rooms separated.inside start goal on.on links separated.closed node separated.start_in on.leads in
    let out = separated.goal_out in
    absurd (cc)

-- ---- the search backwards from the goal

-- If neither the start nor the node `stop` has a label, the nodes without one are such a set.
pub separated-unlabelled : {l : Links} (rooms flags : List ℕ) {labels : List ℕ} {start goal stop : ℕ} → AreLinks l → AreFlags l rooms flags
    → AreLabels l flags goal stop labels → get_or labels stop 0 ≡ no_label → get_or labels start 0 ≡ no_label → IsSeparated l rooms start goal
separated-unlabelled {l = l} rooms flags {labels = labels} {start = start} {goal = goal} links told are unlabelled outside = record {
  inside = λ v. get_or labels v 0 == no_label;
  start_in = eq-eqb (get_or labels start 0) no_label outside;
  goal_out = ne_eqb (get_or labels goal 0) no_label (omega (arith, are.roots_are goal (first-root goal)));
  closed = λ v p node lies room within.
      let head : ℕ = get_or l.heads p 0 in
      let valid = valid-labelled rooms flags links told are v p node lies room in
      let small = are.small head (links.each p (lies-within l v p links node lies)).head in
      eq-eqb (get_or labels head 0) no_label
      (grind (arith, valid, small, unlabelled, eqb-true (get_or labels v 0) no_label within, links.at_most_nodes));
}

-- The marks of these nodes are those of the set.
pub parted-unlabelled : {l : Links} (rooms flags : List ℕ) {labels : List ℕ} {start goal stop : ℕ} → AreLinks l → AreFlags l rooms flags
    → AreLabels l flags goal stop labels → get_or labels stop 0 ≡ no_label → get_or labels start 0 ≡ no_label
    → (marks : List Bool) → MarksUnlabelled labels marks → IsParted l rooms start goal marks
unfolding separated-unlabelled
parted-unlabelled rooms flags links told are unlabelled outside marks marked = record {
  separated = separated-unlabelled rooms flags links told are unlabelled outside;
  marked = λ long v node. marked (omega (arith, are.one_each, long)) v (subst (λ n. IsNode n v) (sym long) node);
}

-- ---- the search forwards from a root

-- Each flag says whether the link has room.
abbrev pub AreOpen : Links → List ℕ → List ℕ → Type 0
AreOpen l rooms opens = (p : ℕ) → p < length l.heads → get_or opens p 0 ≡ open_flag (get_or rooms p 0)

-- Flags that are made of the rooms tell of them.
pub AreOpen-map : (l : Links) (rooms opens : List ℕ) → AreRooms l rooms → opens ≡ map open_flag rooms → AreOpen l rooms opens
AreOpen-map l rooms opens are told p within = ap (λ os. get_or os p 0) told ∙ get_or-map open_flag rooms p 0 0 (omega (arith, within, are.0))

-- what the test says about a label
pub label-from : (label : ℕ) → is_label label ≡ true → label ≢ no_label
label-from label is same = let no : is_label label ≡ false = rw (eq-eqb label no_label same) refl in cc

-- A label is told to be one.
pub label-to : (label : ℕ) → label ≢ no_label → is_label label ≡ true
label-to label other = rw (ne_eqb label no_label other) refl

pub label-none : (label : ℕ) → label ≡ no_label → is_label label ≡ false
label-none label none = rw (eq-eqb label no_label none) refl

-- a path, and one more link
open-push : (l : Links) (rooms : List ℕ) (u v : ℕ) (ps : List ℕ) (p : ℕ) → IsOpenPath l rooms v u ps → LiesAt l v p → 0 < get_or rooms p 0
    → IsOpenPath l rooms (get_or l.heads p 0) u (ps ++ p ∷ [])
open-push l rooms u v [] p leads lies room = (rw leads lies, room, refl)
open-push l rooms u v (q ∷ ps) p leads lies room = (leads.0, leads.1, open-push l rooms (get_or l.heads q 0) v ps p leads.2 lies room)

module _ {l : Links} (rooms : List ℕ) {opens labels : List ℕ} {root stop : ℕ} (links : AreLinks l) (told : AreOpen l rooms opens)
    (are : AreLabels l opens root stop labels) where
  -- If the node `stop` has no label, the nodes with one are such a set.
  closed-labelled : get_or labels stop 0 ≡ no_label → IsClosed l rooms (λ v. is_label (get_or labels v 0))
  closed-labelled unlabelled v p node lies room within =
      let labelled = label-from (get_or labels v 0) within in
      let small = are.small v node in
      let flag = told p (lies-within l v p links node lies) ∙ flag-of_room (get_or rooms p 0) room in
      let near = are.near v p node lies flag (omega (arith, labelled, small, unlabelled, links.at_most_nodes)) in
      label-to (get_or labels (get_or l.heads p 0) 0) (omega (arith, near, labelled, small, links.at_most_nodes))

  -- Where a search from the start has not labelled the goal, the two are separated.
  pub separated-labelled : get_or labels stop 0 ≡ no_label → IsSeparated l rooms root stop
  separated-labelled unlabelled = record {
    inside = λ v. is_label (get_or labels v 0);
    start_in = label-to (get_or labels root 0) (omega (arith, are.roots_are root (first-root root)));
    goal_out = rw (eq-eqb (get_or labels stop 0) no_label unlabelled) refl;
    closed = closed-labelled unlabelled;
  }

  -- The marks of the nodes with a label are those of the set.
  pub parted-labelled : get_or labels stop 0 ≡ no_label → (marks : List Bool) → MarksLabelled labels marks → IsParted l rooms root stop marks
  unfolding separated-labelled
  parted-labelled unlabelled marks marked = record {
    separated = separated-labelled unlabelled;
    marked = λ long v node. marked (omega (arith, are.one_each, long)) v (subst (λ n. IsNode n v) (sym long) node);
  }

  -- A path leads from the root to each node with a label.
  path-to_labelled : (v n : ℕ) → IsNode l.nodes v → get_or labels v 0 ≢ no_label → get_or labels v 0 < n → (ps : List ℕ) × IsOpenPath l rooms v root ps
  path-to_labelled v zero node labelled low = absurd (omega (arith, low))
  path-to_labelled v (suc n) node labelled low = elim (cases_eq v root) [
    | inl same ↦ ([], sym same)
    | inr other ↦
        let backed = are.backed v node (λ among. other (one-root among)) labelled in
        let p : ℕ = backed.place in
        let link = links.each p backed.within in
        let room = room-of_flag (get_or rooms p 0) (sym (told p backed.within) ∙ backed.opened) in
        let tail_labelled : get_or labels (tail_of l p) 0 ≢ no_label = omega (arith, labelled, are.small v node, backed.label, links.at_most_nodes) in
        let before = path-to_labelled (tail_of l p) n link.tail tail_labelled (omega (arith, low, backed.label)) in
        let whole = open-push l rooms root (tail_of l p) before.0 p before.1 link.lies room in
        (before.0 ++ p ∷ [], subst (λ w. IsOpenPath l rooms w root (before.0 ++ p ∷ [])) backed.leads whole)
  ]

-- The nodes with labels are those that paths reach from the root.
pub reachable-labelled : (l : Links) (places rooms : List ℕ) {opens labels : List ℕ} {root : ℕ} → AreLinks l → ArePlaces l places → AreRooms l rooms
    → AreOpen l rooms opens → AreLabels l opens root 0 labels → IsNode l.nodes root → (v : ℕ) → IsNode l.nodes v
    → (get_or labels v 0 ≢ no_label) ↔ IsReachable (steps_of (pairs_at l places rooms)) root v
reachable-labelled l places rooms {labels = labels} {root = root} links places_are fit told are root_is v node = (
  (λ labelled.
      let found = path-to_labelled rooms links told are v (get_or labels v 0 + 1) node labelled (omega arith) in
      (path_on l places rooms found.0, path-of_links l places rooms v root found.0 links places_are fit root_is found.1)),
  (λ reached.
      let on = links-of_path l places rooms v root reached.0 links places_are reached.1 in
      label-from (get_or labels v 0) (inside-on_path rooms (λ u. is_label (get_or labels u 0)) root v on.on links
      (closed-labelled rooms links told are are.zero) root_is (label-to (get_or labels root 0) (omega (arith, are.roots_are root (first-root root)))) on.leads)),
)
