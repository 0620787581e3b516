-- A node is reached if and only if it has a label.
use Rattle.std.proofs.Common.{ℕ, ◌≡◌, ◌+◌, ◌-◌, ◌<◌, ◌↔◌, Bool, false, IsTrue, List, length, get_or, map, drop, ap, sym, ◌∙◌, arith, length-drop}
use Rattle.std.specs.List.{slice_index_or}
use Rattle.std.proofs.lemmas.List.{get_or-map, get_or-drop}
use Rattle.dmf_node.specs.Node.{IsNode}
use Rattle.dmf_path.specs.Path.{IsReachable}
use Rattle.dmf_path.specs.Pair.{steps_of}
use Rattle.dmf_links.specs.Links.{Links, AreLinks, ArePlaces, AreRooms, open_flag, pairs_at}
use Rattle.dmf_path.specs.Labels.{AreLabels, is_label}
use Rattle.dmf_path.proofs.paths.Reaching.{AreOpen-map, label-from, label-to, reachable-labelled}

-- the mark of a node
mark_is : (labels : List ℕ) (marks : List Bool) (nodes v : ℕ) → length labels ≡ nodes + 1 → marks ≡ map is_label (drop 1 labels) → IsNode nodes v
    → slice_index_or marks (v - 1) false ≡ is_label (get_or labels v 0)
mark_is labels marks nodes v long are node =
    let within : v - 1 < length (drop 1 labels) = omega (arith, long, node.from_one, node.to_last, length-drop 1 labels) in
    let place : 1 + (v - 1) ≡ v = omega (arith, node.from_one) in
    rw are (get_or-map is_label (drop 1 labels) (v - 1) 0 false within ∙ ap is_label (get_or-drop 1 labels (v - 1) 0 ∙ ap (λ k. get_or labels k 0) place))

-- The marks say to which nodes paths lead from the root.
pub marks-reached : (l : Links) (places rooms opens labels : List ℕ) (root : ℕ) (marks : List Bool) → AreLinks l → ArePlaces l places → AreRooms l rooms
    → opens ≡ map open_flag rooms → AreLabels l opens root 0 labels → IsNode l.nodes root → marks ≡ map is_label (drop 1 labels)
    → (v : ℕ) → IsNode l.nodes v → IsTrue (slice_index_or marks (v - 1) false) ↔ IsReachable (steps_of (pairs_at l places rooms)) root v
marks-reached l places rooms opens labels root marks links places_are rooms_are told are node is v inside =
    let reached = reachable-labelled l places rooms links places_are rooms_are (AreOpen-map l rooms opens rooms_are told) are node v inside in
    let mark = mark_is labels marks l.nodes v are.one_each is inside in (
      λ marked. reached.0 (label-from (get_or labels v 0) (sym mark ∙ marked)),
      λ leads. mark ∙ label-to (get_or labels v 0) (reached.1 leads),
    )
