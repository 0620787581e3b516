-- What the nodes near a goal say of walks that lead there.
use Rattle.std.proofs.Common.{ℕ, ◌≤◌, List, [], ◌∷◌, length, get_or, ap, arith}
use Rattle.dmf_node.specs.Node.{IsNode}
use Rattle.dmf_links.specs.Links.{Links, AreLinks}
use Rattle.dmf_path.specs.Ball.{AreNear}
use Rattle.dmf_path.proofs.paths.OpenPaths.{IsOpenPath, head-node}

-- A node from which a path of links with room leads to the goal has a label of at most their number, if that is at most the radius.
pub near-path : {l : Links} {rooms : List ℕ} {goal radius : ℕ} {around : List ℕ} → AreLinks l → AreNear l rooms goal radius around
    → (v : ℕ) (ps : List ℕ) → IsNode l.nodes v → IsOpenPath l rooms goal v ps → length ps ≤ radius → get_or around v 0 ≤ length ps
near-path {around = around} links near v [] node leads long = omega (arith, near.goal_is, ap (λ u. get_or around u 0) leads)
near-path {l = l} links near v (p ∷ ps) node leads long =
    let rest = near-path links near (get_or l.heads p 0) ps (head-node l v p links node leads.0) leads.2 (omega (arith, long)) in
    omega (arith, rest, near.near v p node leads.0 leads.1 (omega (arith, rest, long)))
