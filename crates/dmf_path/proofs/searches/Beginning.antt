-- The beginning of a search: what its labels and current links say.
use Rattle.std.proofs.Common.{ℕ, ◌≡◌, ◌≢◌, ◌+◌, ◌<◌, List, length, get_or, set, replicate, refl, ◌∙◌, arith}
use Rattle.std.proofs.lemmas.List.{get_or_default, get_or-replicate, length-replicate, get_or-set_same, get_or-set_other, length-set}
use Rattle.dmf_node.specs.Node.{IsNode}
use Rattle.dmf_links.specs.Links.{Links, AreLinks}
use Rattle.dmf_path.specs.Labels.{no_label, AreQueued}
use Rattle.dmf_path.specs.declared.levels.Levels.{Levels}
use Rattle.dmf_path.specs.Walk.{ArePassed, AreSkipped}
use Rattle.dmf_path.specs.BothEnds.{AreSmall, AreSound}
use Rattle.dmf_path.specs.Searching.{AreReady, IsFresh, IsReady, fresh_labels}
use Rattle.dmf_links.proofs.tables.LinkPlaces.{lies-within}
use Rattle.dmf_path.proofs.labels.Spreading.{cases-set}

-- No admissible link is passed if the current link of each node with a label is its first one: from a node without a label nothing falls.
pub skipped-first : (l : Links) (labels rooms current : List ℕ) → AreLinks l → AreSmall l.nodes labels
    → ((v : ℕ) → IsNode l.nodes v → get_or labels v 0 ≢ no_label → get_or current v 0 ≡ get_or l.first v 0) → AreSkipped l labels rooms current
skipped-first l labels rooms current links small first v p node lies before admissible =
    let head = small.1 (get_or l.heads p 0) (links.each p (lies-within l v p links node lies)).head in
    omega (arith, first v node (λ none. omega (arith, none, admissible.falls, head, links.at_most_nodes)), lies.from, before)

-- Nor is one passed in a fresh search, where nothing falls at all.
pub passed-fresh : (l : Links) (labels rooms : List ℕ) (start goal : ℕ) (current : List ℕ) → AreLinks l → IsFresh l labels start
    → ArePassed l labels rooms goal current
passed-fresh l labels rooms start goal current links fresh v p ps node lies before walk =
    let head = fresh.others (get_or l.heads p 0) (links.each p (lies-within l v p links node lies)).head in
    omega (arith, fresh.others v node, head, walk.0.falls)

-- Labels of a fresh search are sound, whatever the rooms are.
pub sound-fresh : (l : Links) (labels rooms : List ℕ) (start : ℕ) → length labels ≡ l.nodes + 1 → IsFresh l labels start
    → AreSound l labels rooms (get_or labels start 0)
sound-fresh l labels rooms start long fresh = record {
  counts = labels;
  small = (long, λ v node. grind (arith, fresh.others v node));
  filled_are = λ v node has. refl;
  valid = λ v p node lies room below. absurd (omega (arith, below, fresh.label));
  gated = λ v p node lies room is none. omega (arith, is, none, fresh.others v node);
}

-- The labels with which a fresh search begins
pub record BeginsFresh (l : Links) (labels : List ℕ) (start goal : ℕ) : Type 0 where
  pub long : length labels ≡ l.nodes + 1
  pub goal_label : get_or labels goal 0 ≡ 0
  pub fresh : IsFresh l labels start

-- A search over links begins with fresh labels.
pub begins-fresh : (l : Links) (start goal : ℕ) → IsNode l.nodes start → IsNode l.nodes goal → start ≢ goal
    → BeginsFresh l (fresh_labels l.nodes start goal) start goal
begins-fresh l start goal start_is goal_is apart =
    let none : List ℕ = replicate (l.nodes + 1) no_label in
    let one : List ℕ = set none start 0 in
    let none_long : length none ≡ l.nodes + 1 = length-replicate (l.nodes + 1) no_label in
    let one_long : length one ≡ length none = length-set none start 0 in
    record {
      long = length-set one goal 0 ∙ one_long ∙ none_long;
      goal_label = get_or-set_same one goal 0 0 (omega (arith, goal_is.to_last, one_long, none_long));
      fresh = record {
        label = get_or-set_other one goal start 0 0 apart ∙ get_or-set_same none start 0 0 (omega (arith, start_is.to_last, none_long));
        others = λ v node.
            let last = cases-set one goal v 0 (omega (arith, goal_is.to_last, one_long, none_long)) in
            let first = cases-set none start v 0 (omega (arith, start_is.to_last, none_long)) in
            grind (arith, last, first, get_or-replicate (l.nodes + 1) v no_label 0 (omega (arith, node.to_last)));
      };
    }

-- The queue has all nodes with labels, and the current links of its nodes are first ones: so all nodes with labels have theirs there.
pub first-queued : (l : Links) (labels queue current : List ℕ) → length labels ≡ l.nodes + 1 → AreQueued labels queue
    → ((i : ℕ) → i < length queue → get_or current (get_or queue i 0) 0 ≡ get_or l.first (get_or queue i 0) 0)
    → (v : ℕ) → IsNode l.nodes v → get_or labels v 0 ≢ no_label → get_or current v 0 ≡ get_or l.first v 0
first-queued l labels queue current long queued first v node has =
    let at = queued.listed v (omega (arith, node.to_last, long)) has in
    rw (get_or_default queue at.0 0 v at.1 ∙ at.2) at (first at.0 at.1)

-- Levels that are ready are ready for the number of nodes that have labels.
pub ready-at : (nodes : ℕ) (levels : Levels) → AreReady levels → length levels.near.labels ≡ nodes + 1 → IsReady nodes levels.near levels.far
ready-at nodes levels ready long = let same : ready.0 ≡ nodes = omega (arith, long, ready.1.one_label_each) in rw same at ready.1
