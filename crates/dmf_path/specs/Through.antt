-- Labels from the ways out of marked nodes: the marked nodes are labelled backwards from the tails, and the others forwards from the heads.
-- Private: only contracts inside the crate and proofs use this.
use Rattle.std.specs.Prelude.{ℕ, ◌≡◌, ◌≢◌, ◌+◌, ◌<◌, not, Bool, true, false, if◌then◌else◌, List, [], ◌∷◌, length, slice_index}
use Rattle.std.specs.Prelude.{Option, None, Some, Contains, ◌↔◌}
use Rattle.dmf_node.specs.Node.{IsNode}
use Rattle.dmf_links.specs.LinkTable.{links_of}
use Rattle.dmf_links.specs.Links.{Links, LiesAt}
use Rattle.dmf_path.specs.BothEnds.{AreSoundBetween}
use Rattle.dmf_path.specs.ClosedSide.{is_marked}
use Rattle.dmf_path.specs.Frontier.{IsSpread}
use Rattle.dmf_path.specs.Labels.{no_label, is_label, AreLabelsFrom}
use Rattle.dmf_path.specs.Reach.{Reach}
use Rattle.dmf_path.specs.Searching.{IsParted}
use Rattle.dmf_path.specs.declared.residual.Residual.{Residual}
use Rattle.dmf_path.specs.declared.search.through.Passage.{Passage}
use Rattle.dmf_path.specs.declared.search.through.Passage.TheVariants.{Once, Closed, Unknown}
use Rattle.dmf_path.specs.declared.through.WaysOut.{WaysOut}

-- whether the node is on this side: has the mark, or has none
abbrev pub is_on_side : Bool → List Bool → ℕ → Bool
is_on_side mark marks v = if mark then is_marked marks v else not (is_marked marks v)

-- the flags of the links to nodes with this mark, and 0 for the others
abbrev pub flags_to : Bool → List Bool → List ℕ → List ℕ → List ℕ
flags_to mark marks [] flags = []
flags_to mark marks (head ∷ heads) [] = []
flags_to mark marks (head ∷ heads) (flag ∷ flags) = (if is_on_side mark marks head then flag else 0) ∷ flags_to mark marks heads flags

-- The start and the tails are marked, the goal and the heads are not, and each link with room from a marked node to one that is not leads
-- from one of the tails to one of the heads.
pub record AreWaysOut (l : Links) (rooms : List ℕ) (start goal : ℕ) (ways : WaysOut) (marks : List Bool) : Type 0 where
  pub one_each : length marks ≡ l.nodes
  pub start_in : is_marked marks start ≡ true
  pub goal_out : is_marked marks goal ≡ false
  pub tails_in : (v : ℕ) → Contains ways.tails.items v → IsNode l.nodes v × (is_marked marks v ≡ true)
  pub heads_out : (v : ℕ) → Contains ways.heads.items v → IsNode l.nodes v × (is_marked marks v ≡ false)
  pub leaves : (v p : ℕ) → IsNode l.nodes v → LiesAt l v p → 0 < slice_index rooms p → is_marked marks v ≡ true
      → is_marked marks (slice_index l.heads p) ≡ false → Contains ways.tails.items v × Contains ways.heads.items (slice_index l.heads p)

-- A mark for each node: those of the nodes with a label are this one, and the others are as before.
pub record AreMarked (labels : List ℕ) (mark : Bool) (before after : List Bool) : Type 0 where
  pub one_each : length after ≡ length before
  pub each : (v : ℕ) → IsNode (length before) v
      → is_marked after v ≡ (if is_label (slice_index labels v) then mark else is_marked before v)

-- A search from some ends of the ways out, among the nodes with one mark, has come to the node `stop`. Or these ends are cut off from
-- there. Or the search was given up.
pub record HasLooked (l : Links) (opens given : List ℕ) (stop : ℕ) (search : Reach) (found : Option Bool) : Type 0 where
  pub spread : IsSpread l opens search
  pub roots : (v : ℕ) → Contains search.roots v ↔ Contains given v
  pub labels : found ≢ None → AreLabelsFrom l opens search.roots stop search.labels
  pub found_is : found ≡ Some true → slice_index search.labels stop ≢ no_label
  pub missed : found ≡ Some false → slice_index search.labels stop ≡ no_label

-- Sound labels by which a walk leaves the marked nodes once: theirs are above those of the other nodes, down to the goal's, which is 0.
pub record FallOnce (l : Links) (rooms labels : List ℕ) (start goal : ℕ) (marks : List Bool) : Type 0 where
  pub sound : AreSoundBetween l rooms labels start goal
  pub goal_label : slice_index labels goal ≡ 0
  pub above : (v w : ℕ) → IsNode l.nodes v → IsNode l.nodes w → is_marked marks v ≡ false → is_marked marks w ≡ true
      → slice_index labels v ≢ no_label → slice_index labels w ≢ no_label → slice_index labels v < slice_index labels w

-- What came of labels from the ways out: walks along them leave the marked nodes once; or no path is left, and a closed side is marked; or
-- they were given up.
pub record HasPassed (links : Residual) (near : Reach) (start goal : ℕ) (found : Option Bool) (before after : List Bool) : Type 0 where
  pub one_label_each : length near.labels ≡ links.table.value.nodes + 1
  pub labelled : found ≡ Some true → FallOnce (links_of links.table.value) links.rooms.items near.labels start goal before
  pub parted : found ≡ Some false → IsParted (links_of links.table.value) links.rooms.items start goal after
  pub same : found ≢ Some false → after ≡ before

-- what is known of paths where labels pass, with this label of the start; or do not pass; or were given up
abbrev pub passage_by : Option Bool → ℕ → Passage
passage_by (Some true) long = Once long
passage_by (Some false) long = Closed
passage_by None long = Unknown
