-- What a look over links of a node finds.
-- Private: only contracts inside the crate and proofs use this.
use Rattle.std.specs.Prelude.{ℕ, ◌≡◌, ◌≢◌, ◌+◌, ◌-◌, ◌<◌, ◌≤◌, true, List, length, slice_index}
use Rattle.dmf_node.specs.Node.{IsNode}
use Rattle.dmf_path.specs.declared.ball.Ball.{Ball}
use Rattle.dmf_path.specs.declared.look.Look.{Look}
use Rattle.dmf_path.specs.declared.look.LinkRange.{LinkRange}
use Rattle.dmf_path.specs.declared.look.Wanted.{Wanted}
use Rattle.dmf_path.specs.declared.residual.Residual.{Residual}
use Rattle.dmf_links.specs.LinkTable.{links_of}
use Rattle.dmf_path.specs.Astray.{LeadsAstray}
use Rattle.dmf_path.specs.Ball.{AreNodes, IsTidy}
use Rattle.dmf_path.specs.Windows.{AreRanges}

-- Each node has a place for its label, and the nodes near the goal are nodes of these links.
pub record AreSeen (links : Residual) (labels : List ℕ) (ball : Ball) : Type 0 where
  pub one_label_each : length labels ≡ links.table.value.nodes + 1
  pub one_each : 0 < ball.radius → length ball.around.labels ≡ links.table.value.nodes + 1
  pub nodes : 0 < ball.radius → AreNodes links.table.value.nodes ball.around.queue
  pub tidy : IsTidy ball
  pub ranges : ball.windows.known ≡ true → AreRanges (links_of links.table.value) ball.windows

-- At the places from `from` up to `end` there are links of the node.
pub record AreLinksOf (links : Residual) (node from end : ℕ) : Type 0 where
  pub node_is : IsNode links.table.value.nodes node
  pub from_first : slice_index links.table.value.first.items node ≤ from
  pub range : from ≤ end
  pub to_last : end ≤ slice_index links.table.value.first.items (node + 1)

-- The look has found the link at its place, or come to the end. No link before `skipped` is admissible, and none before its place leads on.
pub record IsLook (links : Residual) (labels : List ℕ) (ball : Ball) (wanted : Wanted) (from end : ℕ) (look : Look) : Type 0 where
  pub from_first : from ≤ look.skipped
  pub order : look.skipped ≤ look.place
  pub to : look.place ≤ end
  pub room : look.place < end → 0 < slice_index links.rooms.items look.place
  pub falls : look.place < end → slice_index labels (slice_index links.table.value.heads.items look.place) + 1 ≡ wanted.label
  pub first : (p : ℕ) → from ≤ p → p < look.skipped → 0 < slice_index links.rooms.items p
      → slice_index labels (slice_index links.table.value.heads.items p) + 1 ≢ wanted.label
  pub only : (p : ℕ) → from ≤ p → p < look.place → 0 < slice_index links.rooms.items p
      → slice_index labels (slice_index links.table.value.heads.items p) + 1 ≡ wanted.label
      → LeadsAstray ball (links_of links.table.value) wanted.goal wanted.left p

-- What a look from a node finds: links only where the node is above the goal.
pub record IsLookFrom (links : Residual) (labels : List ℕ) (ball : Ball) (goal : ℕ) (range : LinkRange) (look : Look) : Type 0 where
  pub from_first : range.from ≤ look.skipped
  pub order : look.skipped ≤ look.place
  pub to : look.place ≤ range.end
  pub room : look.place < range.end → 0 < slice_index links.rooms.items look.place
  pub falls : look.place < range.end → slice_index labels (slice_index links.table.value.heads.items look.place) + 1 ≡ slice_index labels range.node
  pub above : look.place < range.end → slice_index labels goal < slice_index labels range.node
  pub first : (p : ℕ) → range.from ≤ p → p < look.skipped → 0 < slice_index links.rooms.items p
      → slice_index labels (slice_index links.table.value.heads.items p) + 1 ≢ slice_index labels range.node
  pub only : slice_index labels goal < slice_index labels range.node → (p : ℕ) → range.from ≤ p → p < look.place → 0 < slice_index links.rooms.items p
      → slice_index labels (slice_index links.table.value.heads.items p) + 1 ≡ slice_index labels range.node
      → LeadsAstray ball (links_of links.table.value) goal (slice_index labels range.node - slice_index labels goal - 1) p

-- No link before this place leads on, and that there does, if it is before the end.
pub record IsNext (links : Residual) (labels : List ℕ) (ball : Ball) (wanted : Wanted) (from end place : ℕ) : Type 0 where
  pub from_first : from ≤ place
  pub to : place ≤ end
  pub room : place < end → 0 < slice_index links.rooms.items place
  pub falls : place < end → slice_index labels (slice_index links.table.value.heads.items place) + 1 ≡ wanted.label
  pub only : (p : ℕ) → from ≤ p → p < place → 0 < slice_index links.rooms.items p
      → slice_index labels (slice_index links.table.value.heads.items p) + 1 ≡ wanted.label
      → LeadsAstray ball (links_of links.table.value) wanted.goal wanted.left p
