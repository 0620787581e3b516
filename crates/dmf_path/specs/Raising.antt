-- Raising labels, as the shortest augmenting path algorithm does where a node has no admissible link (Ahuja, Magnanti and Orlin,
-- Network Flows, section 7.4).
-- Private: only contracts inside the crate and proofs use this.
use Rattle.std.specs.Prelude.{ℕ, ◌≡◌, ◌≢◌, ◌<◌, ◌≤◌, List, slice_index}
use Rattle.dmf_links.specs.Links.{Links, LiesAt}
use Rattle.dmf_path.specs.Labels.{no_label}
use Rattle.dmf_path.specs.BothEnds.{AreWhole}
use Rattle.dmf_path.specs.Residual.{ResidualLinks}
use Rattle.dmf_path.specs.Searching.{Labelling, AreNoted}
use Rattle.dmf_path.specs.Walk.{AreCurrent, ArePassed}

-- Of the labels to which links with room lead from node `v` this is the least one, or no label if there are none.
pub record IsLeastAhead (l : Links) (labels rooms : List ℕ) (v label : ℕ) : Type 0 where
  pub most : (p : ℕ) → LiesAt l v p → 0 < slice_index rooms p → label ≤ slice_index labels (slice_index l.heads p)
  pub one : label ≢ no_label → (p : ℕ) × LiesAt l v p × (0 < slice_index rooms p) × (slice_index labels (slice_index l.heads p) ≡ label)

-- Labels that may be raised: no link with room falls by more than one, and the current links fit this goal.
pub record MayBeRaised (r : ResidualLinks) (goal : ℕ) (v : Labelling) : Type 0 where
  pub whole : AreWhole r.links v.labels r.rooms
  pub current_is : AreCurrent r.links v.current
  pub passed : ArePassed r.links v.labels r.rooms goal v.current

-- Labels have risen, or stayed, and may be raised further; that of the goal stayed. What was noted still is.
pub record AreRaised (r : ResidualLinks) (goal : ℕ) (old new : Labelling) : Type 0 where
  pub further : MayBeRaised r goal new
  pub noted : (noted : List ℕ) → AreNoted r.links old.labels r.rooms old.current noted → AreNoted r.links new.labels r.rooms new.current noted
  pub more : (v : ℕ) → slice_index old.labels v ≤ slice_index new.labels v
  pub labelled : (v : ℕ) → slice_index old.labels v ≢ no_label → slice_index new.labels v ≢ no_label
  pub goal_is : slice_index new.labels goal ≡ slice_index old.labels goal
