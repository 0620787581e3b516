-- The nodes near a goal, as a breadth-first search from it finds them backwards.
-- Private: only contracts inside the crate and proofs use this.
use Rattle.std.specs.Prelude.{ℕ, ◌≡◌, ◌+◌, ◌<◌, ◌≤◌, true, false, List, length, slice_index}
use Rattle.dmf_node.specs.Node.{IsNode}
use Rattle.dmf_links.specs.Links.{Links, LiesAt}
use Rattle.dmf_path.specs.declared.ball.Ball.{Ball}
use Rattle.dmf_path.specs.Labels.{no_label}
use Rattle.dmf_path.specs.Residual.{ResidualLinks}
use Rattle.dmf_path.specs.Windows.{AreWindows}

-- Each node with a label is in the queue.
abbrev pub AreListed : List ℕ → List ℕ → Type 0
AreListed labels queue = (v : ℕ) → v < length labels → slice_index labels v < no_label → (i : ℕ) × ((i < length queue) × (slice_index queue i ≡ v))

-- The goal has the label 0. Where a link with room leads to a node with a label below the radius, the label of its tail is at most one
-- more. So a node from which n links with room lead to the goal, n at most the radius, has a label of at most n.
pub record AreNear (l : Links) (rooms : List ℕ) (goal radius : ℕ) (labels : List ℕ) : Type 0 where
  pub one_each : length labels ≡ l.nodes + 1
  pub goal_is : slice_index labels goal ≡ 0
  pub near : (v p : ℕ) → IsNode l.nodes v → LiesAt l v p → 0 < slice_index rooms p → slice_index labels (slice_index l.heads p) < radius
      → slice_index labels v ≤ slice_index labels (slice_index l.heads p) + 1

-- If something is known, the nodes with labels are those of the queue.
abbrev pub IsTidy : Ball → Type 0
IsTidy ball = 0 < ball.radius → AreListed ball.around.labels ball.around.queue

-- The queue has nodes.
abbrev pub AreNodes : ℕ → List ℕ → Type 0
AreNodes nodes queue = (i : ℕ) → i < length queue → IsNode nodes (slice_index queue i)

-- What is known is right in this residual network, in which no room rises.
pub record IsKnown (ball : Ball) (r : ResidualLinks) : Type 0 where
  pub falls : r.takes_back ≡ false
  pub nodes : AreNodes r.links.nodes ball.around.queue
  pub near : AreNear r.links r.rooms ball.goal ball.radius ball.around.labels

pub record IsFit (ball : Ball) (r : ResidualLinks) : Type 0 where
  pub tidy : IsTidy ball
  pub known : 0 < ball.radius → IsKnown ball r
  pub windows : ball.windows.known ≡ true → AreWindows ball.windows r

-- It is about this goal.
abbrev pub IsAround : Ball → ℕ → Type 0
IsAround ball goal = 0 < ball.radius → ball.goal ≡ goal

-- What is known is right, and about this goal.
pub record IsFitFor (ball : Ball) (r : ResidualLinks) (goal : ℕ) : Type 0 where
  pub fit : IsFit ball r
  pub around : IsAround ball goal
