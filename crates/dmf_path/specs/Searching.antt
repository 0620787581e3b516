-- What a search keeps.
-- Private: only contracts inside the crate and proofs use this.
use Rattle.std.specs.Prelude.{ℕ, ◌≡◌, ◌≢◌, ◌+◌, ◌^◌, ◌<◌, ◌≤◌, ◌⊎◌, Bool, true, false, List, length, replicate, slice_index, slice_set, Contains}
use Rattle.std.specs.List.{All}
use Rattle.dmf_path.specs.declared.aside.Aside.{Aside}
use Rattle.dmf_path.specs.declared.aside.Ends.{Ends}
use Rattle.dmf_path.specs.declared.ball.Ball.{Ball}
use Rattle.dmf_path.specs.declared.levels.Levels.{Levels}
use Rattle.dmf_path.specs.declared.residual.Residual.{Residual}
use Rattle.dmf_path.specs.Reach.{Reach}
use Rattle.dmf_path.specs.declared.noted.Noted.{Noted}
use Rattle.dmf_path.specs.Ball.{IsFit}
use Rattle.dmf_path.specs.Labels.{no_label}
use Rattle.dmf_path.specs.Frontier.{IsClean}
use Rattle.dmf_path.specs.BothEnds.{AreSound, AreWhole, IsLabelled}
use Rattle.dmf_node.specs.Node.{IsNode}
use Rattle.dmf_links.specs.LinkTable.{links_of}
use Rattle.dmf_links.specs.Links.{Links, LiesAt, AreLinks, AreRooms, pairs_at, tail_of}
use Rattle.dmf_path.specs.Walk.{AreCurrent, ArePassed, IsAdmissible, IsTrail, IsWalking, end_of}
use Rattle.dmf_path.specs.Held.{Way, places_of, walked_slots, rest_slots, filled_slots, HaveLeft}
use Rattle.dmf_path.specs.Residual.{ResidualLinks, with_settled_rooms}
use Rattle.dmf_path.specs.ClosedSide.{is_marked}
use Rattle.dmf_path.specs.Search.{Searched}

-- How far the search for the next path has come: the walk, and the rest of the last path, which leads on to the goal along admissible
-- current links. There is a slot for each label below the start's, down to the goal's.
pub record IsUnderWay (l : Links) (labels rooms current : List ℕ) (w : Way) : Type 0 where
  pub walking : IsWalking l labels rooms w.start w.goal current (places_of (walked_slots w))
  pub rest_is : IsTrail l labels rooms current w.joint (places_of (rest_slots w))
  pub ends : end_of l w.joint (places_of (rest_slots w)) ≡ w.goal
  pub joint_is : IsNode l.nodes w.joint
  pub order : w.walked ≤ w.rest
  pub within : w.rest ≤ length w.slots
  pub one_slot_each : length w.slots + slice_index labels w.goal ≡ slice_index labels w.start

-- The held pushes can be applied.
pub record IsHolding (l : Links) (w : Way) (rooms : List ℕ) : Type 0 where
  pub rooms_are : AreRooms l rooms
  pub small : w.sent < 2 ^ 64
  pub have : HaveLeft w.sent rooms (filled_slots w)

-- the labels of the nodes, and their current links
pub record Labelling : Type 0 where
  pub labels : List ℕ
  pub current : List ℕ

-- the labels and the current links that levels have
abbrev pub labelling_of : Levels → Labelling
labelling_of v = record { labels = v.near.labels; current = v.current.items }

-- the settled residual network in which a search looks for paths, and the ends of these paths
pub record Sought : Type 0 where
  pub residual : ResidualLinks
  pub start : ℕ
  pub goal : ℕ

-- the settled residual network and the ends of a search
abbrev pub sought : ResidualLinks → Way → Sought
sought r w = record { residual = with_settled_rooms r w; start = w.start; goal = w.goal }

-- The labels are sound in the settled residual network, between its ends, which differ, and there is memory for the slots of a path.
pub record IsAimed (s : Sought) (labels : List ℕ) (capacity : ℕ) : Type 0 where
  pub links : AreLinks s.residual.links
  pub one_label_each : length labels ≡ s.residual.links.nodes + 1
  pub start_label : slice_index labels s.start ≤ s.residual.links.nodes
  pub sound : AreSound s.residual.links labels s.residual.rooms (slice_index labels s.start)
  pub start_is : IsNode s.residual.links.nodes s.start
  pub goal_is : IsNode s.residual.links.nodes s.goal
  pub apart : s.start ≢ s.goal
  pub capacity_is : s.residual.links.nodes ≤ capacity

-- What a search has between two paths: labels that are sound, held pushes that can be applied, and how far it has come.
pub record IsSearching (r : ResidualLinks) (v : Labelling) (w : Way) : Type 0 where
  pub aimed : IsAimed (sought r w) v.labels w.capacity
  pub holding : IsHolding r.links w r.rooms
  pub under_way : IsUnderWay r.links v.labels (with_settled_rooms r w).rooms v.current w

-- Among these links there is one of the node at place `p`, or before it.
pub record IsNoted (l : Links) (noted : List ℕ) (v p : ℕ) : Type 0 where
  pub place : ℕ
  pub noted_is : Contains noted place
  pub tail : tail_of l place ≡ v
  pub before : place ≤ p

-- The noted links are links. An admissible link before a current one is noted, or one before it at its node is.
pub record AreNoted (l : Links) (labels rooms current noted : List ℕ) : Type 0 where
  pub within : All (λ p. p < length l.heads) noted
  pub each : (v p : ℕ) → IsNode l.nodes v → LiesAt l v p → p < slice_index current v → IsAdmissible l labels rooms v p → IsNoted l noted v p

-- It is known which admissible links are before current ones, unless some could not be noted.
abbrev pub MaySkip : Noted → ResidualLinks → List ℕ → List ℕ → Type 0
MaySkip noted r labels current = noted.lost ≡ false → AreNoted r.links labels r.rooms current noted.places.items

-- Labels that another search may keep: they are valid whatever its ends are, and it knows which admissible links are passed.
pub record AreLasting (v : Labelling) (noted : Noted) (r : ResidualLinks) : Type 0 where
  pub whole : AreWhole r.links v.labels r.rooms
  pub skipped : MaySkip noted r v.labels v.current

-- The current links fit this goal.
pub record AreKeptFor (v : Labelling) (noted : Noted) (r : ResidualLinks) (goal : ℕ) : Type 0 where
  pub lasting : AreLasting v noted r
  pub current_is : AreCurrent r.links v.current
  pub passed : ArePassed r.links v.labels r.rooms goal v.current

-- Labels that may be lowered: no link with room falls by more than one, and the current links are links.
pub record MayBeLowered (r : ResidualLinks) (v : Labelling) : Type 0 where
  pub whole : AreWhole r.links v.labels r.rooms
  pub current_is : AreCurrent r.links v.current

-- Labels have fallen, or stayed, and links that fall then are current again. What was noted still is.
pub record AreLowered (r : ResidualLinks) (old new : Labelling) : Type 0 where
  pub whole : AreWhole r.links new.labels r.rooms
  pub current_is : AreCurrent r.links new.current
  pub noted : (noted : List ℕ) → AreNoted r.links old.labels r.rooms old.current noted → AreNoted r.links new.labels r.rooms new.current noted
  pub less : (v : ℕ) → slice_index new.labels v ≤ slice_index old.labels v

-- If all nodes from which paths lead to the goal have labels, they are lasting.
abbrev pub MayLast : Levels → ResidualLinks → Type 0
MayLast levels r = levels.all ≡ true → AreLasting (labelling_of levels) levels.noted r

-- The walk has come to where the rest of the last path begins: the two are a path from the start to the goal.
abbrev pub IsFound : ResidualLinks → Way → Type 0
IsFound r w = end_of r.links w.start (places_of (walked_slots w)) ≡ w.joint

-- The labels of a search that has not begun: 0 at both ends, and none elsewhere.
abbrev pub fresh_labels : ℕ → ℕ → ℕ → List ℕ
fresh_labels nodes start goal = slice_set (slice_set (replicate (nodes + 1) no_label) start 0) goal 0

-- The search has not begun: no link falls, whatever the rooms are.
pub record IsFresh (l : Links) (labels : List ℕ) (start : ℕ) : Type 0 where
  pub label : slice_index labels start ≡ 0
  pub others : (v : ℕ) → IsNode l.nodes v → (slice_index labels v ≡ no_label) ⊎ (slice_index labels v ≡ 0)

-- Each node has a place for its label, and none has a label of the search from the start.
pub record IsReady (nodes : ℕ) (near far : Reach) : Type 0 where
  pub one_label_each : length near.labels ≡ nodes + 1
  pub far_is : IsClean nodes far

-- No node has a label of either search, and the ends of paths are two nodes.
pub record MayBeLabelled (links : Residual) (levels : Levels) (ends : Ends) : Type 0 where
  pub near_is : IsClean links.table.value.nodes levels.near
  pub far_is : IsClean links.table.value.nodes levels.far
  pub start_is : IsNode links.table.value.nodes ends.start
  pub goal_is : IsNode links.table.value.nodes ends.goal
  pub apart : ends.start ≢ ends.goal

-- Each of so many nodes, however many they are, has a place for its label, and none has a label of the search from the start.
abbrev pub AreReady : Levels → Type 0
AreReady v = (nodes : ℕ) × IsReady nodes v.near v.far

-- Labels that a search may take up in this residual network: if all nodes from which paths lead to the goal
-- have one, they lead there.
pub record AreUsable (levels : Levels) (r : ResidualLinks) (goal : ℕ) : Type 0 where
  pub ready : IsReady r.links.nodes levels.near levels.far
  pub goal_is : IsNode r.links.nodes goal
  pub current_is : AreCurrent r.links levels.current.items
  pub kept : levels.all ≡ true → AreKeptFor (labelling_of levels) levels.noted r goal

-- Labels from which those can be made that lead from the start to the goal: no link with room falls by more than one, and the start has a
-- label that is not lower than the goal's.
pub record MayLead (levels : Levels) (ball : Ball) (r : ResidualLinks) (start goal : ℕ) : Type 0 where
  pub ready : IsReady r.links.nodes levels.near levels.far
  pub current_is : AreCurrent r.links levels.current.items
  pub lasting : AreLasting (labelling_of levels) levels.noted r
  pub labelled : slice_index levels.near.labels start ≢ no_label
  pub above : slice_index levels.near.labels goal ≤ slice_index levels.near.labels start
  pub fit : IsFit ball r
  pub start_is : IsNode r.links.nodes start
  pub goal_is : IsNode r.links.nodes goal

-- They lead there: no walk to the goal begins with a passed link.
pub record Lead (levels : Levels) (ball : Ball) (r : ResidualLinks) (start goal : ℕ) : Type 0 where
  pub may : MayLead levels ball r start goal
  pub passed : ArePassed r.links levels.near.labels r.rooms goal levels.current.items

-- Those that are set aside are so for the goal that they had, and no room rises.
abbrev pub AreAside : List Aside → ResidualLinks → Type 0
AreAside asides r = All (λ a. (r.takes_back ≡ false) × AreUsable a.levels r a.ends.goal) asides

-- the search as callers see it
abbrev pub searched : Sought → List ℕ → Searched
searched s places = record {
  nodes = s.residual.links.nodes;
  pairs = pairs_at s.residual.links places s.residual.rooms;
  start = s.start;
  goal = s.goal;
  takes_back = s.residual.takes_back;
}

-- No link with room leads out of this set of nodes.
abbrev pub IsClosed : Links → List ℕ → (ℕ → Bool) → Type 0
IsClosed l rooms inside =
    (v p : ℕ) → IsNode l.nodes v → LiesAt l v p → 0 < slice_index rooms p
    → inside v ≡ true → inside (slice_index l.heads p) ≡ true

-- A set of nodes has the start, and not the goal, and no link with room leads out of it.
pub record IsSeparated (l : Links) (rooms : List ℕ) (start goal : ℕ) : Type 0 where
  pub inside : ℕ → Bool
  pub start_in : inside start ≡ true
  pub goal_out : inside goal ≡ false
  pub closed : IsClosed l rooms inside

-- The marks, if there is one for each node, are those of such a set.
pub record IsParted (l : Links) (rooms : List ℕ) (start goal : ℕ) (marks : List Bool) : Type 0 where
  pub separated : IsSeparated l rooms start goal
  pub marked : length marks ≡ l.nodes → (v : ℕ) → IsNode l.nodes v → is_marked marks v ≡ separated.inside v

-- The nodes have new labels, by which a walk leads from the start to the goal; or no path is left, and
-- the nodes on the start's side are marked.
pub record IsRelabelled (links : Residual) (old new : Levels) (ends : Ends) (found : Bool) (marks : List Bool) : Type 0 where
  pub ready : IsReady links.table.value.nodes new.near new.far
  pub labelled : found ≡ true → IsLabelled (links_of links.table.value) links.rooms.items new.near.labels ends.start ends.goal
  pub none : found ≡ false → IsParted (links_of links.table.value) links.rooms.items ends.start ends.goal marks
  pub current : new.current ≡ old.current
