-- Labels made of the distances from the start: no link with room falls by more than one, and a walk leads from the start to each node that
-- has a distance.
use Rattle.std.proofs.Common.{ℕ, ◌≡◌, ◌≢◌, ◌+◌, ◌-◌, ◌<◌, ◌≤◌, ◌++◌, inl, inr, List, [], ◌∷◌, length, get_or, set, zero, suc, ap, sym, refl, ◌∙◌, subst, arith}
use Rattle.std.proofs.lemmas.Bool.{cases_eq}
use Rattle.std.proofs.lemmas.List.{length-set, length_push}
use Rattle.dmf_node.specs.Node.{IsNode}
use Rattle.dmf_links.specs.Links.{Links, AreLinks, tail_of}
use Rattle.dmf_path.specs.Labels.{no_label, AreLabels, AreQueued}
use Rattle.dmf_path.specs.Walk.{IsWalk, AreValid}
use Rattle.dmf_path.specs.BothEnds.{AreTurned, AreWhole, IsLabelled}
use Rattle.dmf_links.proofs.tables.LinkPlaces.{lies-within}
use Rattle.dmf_links.proofs.rooms.Flags.{room-of_flag, flag-of_room}
use Rattle.dmf_path.proofs.labels.Labelled.{sound-below, sound-whole}
use Rattle.dmf_path.proofs.labels.Joining.{queued-next}
use Rattle.dmf_path.proofs.paths.Reaching.{AreOpen}
use Rattle.dmf_path.proofs.labels.Roots.{one-root}
use Rattle.dmf_path.proofs.labels.Spreading.{cases-set}

-- The nodes before `node` have their labels.
pub record AreTurning (nodes : ℕ) (from_start labels queue : List ℕ) (node : ℕ) : Type 0 where
  pub one_each : length labels ≡ nodes + 1
  pub each : (v : ℕ) → IsNode nodes v → v < node → get_or labels v 0 ≡ nodes - get_or from_start v 0
  pub queued : AreQueued labels queue
  pub count : length queue + 1 ≡ node

-- The next one gets its own,
pub turning-next : {nodes : ℕ} {from_start labels queue : List ℕ} {node label : ℕ} → AreTurning nodes from_start labels queue node → 1 ≤ node → node ≤ nodes
    → label ≡ nodes - get_or from_start node 0 → AreTurning nodes from_start (set labels node label) (queue ++ node ∷ []) (node + 1)
turning-next {labels = labels} {queue = queue} {node = node} {label = label} so_far first last is =
    let within : node < length labels = omega (arith, last, so_far.one_each) in
    record {
      one_each = length-set labels node label ∙ so_far.one_each;
      each = λ v node_is before. elim (cases-set labels node v label within) [
        | inl here ↦ here.1 ∙ rw here.0 is
        | inr other ↦ other.1 ∙ so_far.each v node_is (omega (arith, before, other.0))
      ];
      queued = queued-next labels queue node label so_far.queued within;
      count = omega (arith, so_far.count, length_push queue node);
    }

-- and then all have theirs.
pub turning-last : {nodes : ℕ} {from_start labels queue : List ℕ} {node : ℕ} → AreTurning nodes from_start labels queue node → nodes < node
    → AreTurned nodes from_start labels
turning-last so_far all = record { one_each = so_far.one_each; each = λ v node_is. so_far.each v node_is (omega (arith, node_is.to_last, all)) }

module _ {l : Links} (rooms opens : List ℕ) {labels : List ℕ} {start : ℕ} {s : List ℕ} (links : AreLinks l) (opened : AreOpen l rooms opens)
    (labelled : AreLabels l opens start 0 s) (turned : AreTurned l.nodes s labels) where
  -- No link with room falls by more than one.
  valid-turned : AreValid l labels rooms no_label
  valid-turned v p node lies room below =
      let within = lies-within l v p links node lies in
      let head_is = (links.each p within).head in
      let near = labelled.near v p node lies (opened p within ∙ flag-of_room (get_or rooms p 0) room) in
      grind (arith, near, labelled.zero, labelled.small v node, turned.each v node, turned.each (get_or l.heads p 0) head_is, links.at_most_nodes)

  pub whole-turned : AreWhole l labels rooms
  whole-turned = record { small = (turned.one_each, λ v node. inr (omega (arith, turned.each v node))); valid = valid-turned }

  -- If a walk leads to the goal from a node with a distance, one leads from the start.
  walk-turned : (goal n v : ℕ) (ps : List ℕ) → get_or s v 0 < n → IsNode l.nodes v → get_or s v 0 ≢ no_label → IsWalk l labels rooms goal v ps
      → (qs : List ℕ) × IsWalk l labels rooms goal start qs
  walk-turned goal zero v ps low node has walk = absurd (omega (arith, low))
  walk-turned goal (suc n) v ps low node has walk = elim (cases_eq v start) [
    | inl here ↦ (ps, subst (λ u. IsWalk l labels rooms goal u ps) here walk)
    | inr other ↦
        let back = labelled.backed v node (λ among. other (one-root among)) has in
        let p : ℕ = back.place in
        let x : ℕ = tail_of l p in
        let link = links.each p back.within in
        let room : 0 < get_or rooms p 0 = room-of_flag (get_or rooms p 0) (sym (opened p back.within) ∙ back.opened) in
        let small = labelled.small v node in
        let unset : get_or s x 0 ≢ no_label = λ none. omega (arith, none, has, back.label, small, links.at_most_nodes) in
        let falls : get_or labels (get_or l.heads p 0) 0 + 1 ≡ get_or labels x 0 =
        omega (arith, ap (λ u. get_or labels u 0) back.leads, turned.each v node, turned.each x link.tail, back.label, small, has) in
        walk-turned goal n x (p ∷ ps) (omega (arith, low, back.label)) link.tail unset (record { lies = link.lies; room = room; falls = falls }, rw back.leads walk)
  ]

  -- So the start is labelled, for a goal with a distance.
  pub labelled-turned : {goal : ℕ} → IsNode l.nodes start → IsNode l.nodes goal → get_or s goal 0 ≢ no_label → IsLabelled l rooms labels start goal
  labelled-turned {goal = goal} start_is goal_is has =
      let low : get_or labels start 0 ≤ l.nodes = omega (arith, turned.each start start_is) in
      record {
        sound = sound-below l labels rooms (get_or labels start 0) no_label (omega (arith, low, links.at_most_nodes)) (sound-whole l labels rooms links whole-turned);
        start_label = low;
        walk = walk-turned goal (get_or s goal 0 + 1) goal [] (omega arith) goal_is has refl;
      }
