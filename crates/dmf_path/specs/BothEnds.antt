-- Labels from both ends: two breadth-first searches, one backwards from the goal and one forwards from the start, go on in turn, level
-- by level, until a node has a label of both.
-- Private: only contracts inside the crate and proofs use this.
use Rattle.std.specs.Prelude.{ℕ, ◌≡◌, ◌≢◌, ◌+◌, ◌-◌, ◌<◌, ◌≤◌, ◌⊎◌, ◌==◌, if◌then◌else◌, List, [], ◌∷◌, Option, None, Some, length, slice_index, map}
use Rattle.dmf_node.specs.Node.{IsNode}
use Rattle.dmf_path.specs.Reach.{Reach, root_of}
use Rattle.dmf_path.specs.declared.residual.Residual.{Residual}
use Rattle.dmf_path.specs.Frontier.{AreApart, IsAtRest, IsSpread, MeetBeyond, next_label}
use Rattle.dmf_links.specs.Links.{Links, LiesAt, open_flag}
use Rattle.dmf_links.specs.LinkTable.{links_of}
use Rattle.dmf_path.specs.Labels.{no_label, IsBacked}
use Rattle.dmf_path.specs.Walk.{AreValid, IsWalk}

-- The labels of the nodes that open links reach from the root: all nodes at a distance of at most `level`, and perhaps some that are
-- one further.
pub record AreLevels (l : Links) (opens : List ℕ) (root level : ℕ) (labels : List ℕ) : Type 0 where
  pub one_each : length labels ≡ l.nodes + 1
  pub root_is : slice_index labels root ≡ 0
  pub small : (v : ℕ) → IsNode l.nodes v → (slice_index labels v ≡ no_label) ⊎ (slice_index labels v ≤ level + 1)
  pub near : (v p : ℕ) → IsNode l.nodes v → LiesAt l v p → slice_index opens p ≡ 1 → slice_index labels v < level
      → slice_index labels (slice_index l.heads p) ≤ slice_index labels v + 1
  pub backed : (v : ℕ) → IsNode l.nodes v → v ≢ root → slice_index labels v ≢ no_label → IsBacked l opens labels v

-- The two searches have met: node `at` has a label of both. The two labels of any node that has both add up to the length of a shortest
-- path.
pub record HaveMet (nodes near far at : ℕ) (to_goal from_start : List ℕ) : Type 0 where
  pub node : IsNode nodes at
  pub goal_label : slice_index to_goal at ≢ no_label
  pub start_label : slice_index from_start at ≢ no_label
  pub both : (v : ℕ) → IsNode nodes v → (slice_index to_goal v ≡ no_label)
      ⊎ ((slice_index from_start v ≡ no_label) ⊎ (slice_index to_goal v + slice_index from_start v ≡ near + far + 1))

-- The two searches have met at this node, and a shortest path has at most as many links as there are nodes.
pub record HasMetAt (l : Links) (flags opens : List ℕ) (start goal at : ℕ) (to_goal from_start : List ℕ) : Type 0 where
  pub near : ℕ
  pub far : ℕ
  pub goal_side : AreLevels l flags goal near to_goal
  pub start_side : AreLevels l opens start far from_start
  pub met : HaveMet l.nodes near far at to_goal from_start
  pub long : near + far < l.nodes

-- The search has looked at the links of the nodes on the next level, until one of the nodes to which they lead also had a label of the
-- other search, and that is the one that was met.
pub record HasExpandedLevel (l : Links) (opens : List ℕ) (old new : Reach) (others : List ℕ) (met : Option ℕ) : Type 0 where
  pub so_far : IsSpread l opens new
  pub levels : new.roots ≡ root_of new ∷ [] → AreLevels l opens (root_of new) (next_label old) new.labels
  pub at_rest : met ≡ None → IsAtRest new.labels new.queue new.done
  pub apart : met ≡ None → AreApart new.labels others
  pub beyond : MeetBeyond (next_label old) new.labels others
  pub both : (v : ℕ) → met ≡ Some v → IsNode l.nodes v × (slice_index new.labels v ≢ no_label) × (slice_index others v ≢ no_label)
  pub further : met ≡ None → old.done < new.done
  pub roots : new.roots ≡ old.roots

-- The search from the goal goes on where it stopped, and so does the search from the start.
abbrev pub IsGoalSide : Residual → Reach → Type 0
IsGoalSide links f = IsSpread (links_of links.table.value) links.flags.items f

abbrev pub IsStartSide : Residual → Reach → Type 0
IsStartSide links f = IsSpread (links_of links.table.value) (map open_flag links.rooms.items) f

-- A search began at one node alone.
pub record IsRooted (nodes : ℕ) (roots : List ℕ) : Type 0 where
  pub node : IsNode nodes (slice_index roots 0)
  pub alone : roots ≡ slice_index roots 0 ∷ []

-- The two searches have not met yet: each has labelled all nodes up to the level of its next one, and no node has a label of both.
pub record AreNearing (links : Residual) (to_goal from_start : Reach) : Type 0 where
  pub goal : IsRooted links.table.value.nodes to_goal.roots
  pub start : IsRooted links.table.value.nodes from_start.roots
  pub goal_side : IsGoalSide links to_goal
  pub start_side : IsStartSide links from_start
  pub goal_rest : IsAtRest to_goal.labels to_goal.queue to_goal.done
  pub start_rest : IsAtRest from_start.labels from_start.queue from_start.done
  pub apart : AreApart to_goal.labels from_start.labels

-- They have gone on from there. If they have met, then at this node.
pub record HaveGoneOn (links : Residual) (to_goal from_start new_goal new_start : Reach) (node : Option ℕ) : Type 0 where
  pub goal_side : IsGoalSide links new_goal
  pub start_side : IsStartSide links new_start
  pub met : (v : ℕ) → node ≡ Some v → HasMetAt (links_of links.table.value) links.flags.items (map open_flag links.rooms.items)
      (root_of from_start) (root_of to_goal) v new_goal.labels new_start.labels
  pub goal_roots : new_goal.roots ≡ to_goal.roots
  pub start_roots : new_start.roots ≡ from_start.roots

-- a node's label, if it gets one that is made of its label in another search where it has none
abbrev pub joined_by : (ℕ → ℕ) → ℕ → ℕ → ℕ
joined_by made own other = if own == no_label then (if other == no_label then no_label else made other) else own

-- Labels are joined in this way.
pub record AreJoinedBy (made : ℕ → ℕ) (own others labels : List ℕ) : Type 0 where
  pub one_each : length labels ≡ length own
  pub each : (v : ℕ) → v < length labels → slice_index labels v ≡ joined_by made (slice_index own v) (slice_index others v)

-- a node's joined label, if a shortest path has `long` links: the number of links that are left to the goal
abbrev pub joined_label : ℕ → ℕ → ℕ → ℕ
joined_label long = joined_by (λ from_start. long - from_start)

-- The labels of both searches are joined.
abbrev pub AreJoined : ℕ → List ℕ → List ℕ → List ℕ → Type 0
AreJoined long = AreJoinedBy (λ from_start. long - from_start)

-- The labels are the number of nodes less these distances from the start, or 0 where there is none.
pub record AreTurned (nodes : ℕ) (from_start labels : List ℕ) : Type 0 where
  pub one_each : length labels ≡ nodes + 1
  pub each : (v : ℕ) → IsNode nodes v → slice_index labels v ≡ nodes - slice_index from_start v

-- a label, or `beyond` for a node that has none
abbrev pub filled_label : ℕ → ℕ → ℕ
filled_label beyond label = if label == no_label then beyond else label

abbrev pub filled : ℕ → List ℕ → List ℕ
filled beyond labels = map (filled_label beyond) labels

-- Each link with room from a node to one that counts as one level lower leads to a node with a label.
abbrev pub IsGated : Links → List ℕ → List ℕ → List ℕ → Type 0
IsGated l labels rooms counts =
    (v p : ℕ) → IsNode l.nodes v → LiesAt l v p → 0 < slice_index rooms p
    → slice_index labels v ≡ slice_index counts (slice_index l.heads p) + 1 → slice_index labels (slice_index l.heads p) ≢ no_label

-- Each label is a small number.
abbrev pub AreSmall : ℕ → List ℕ → Type 0
AreSmall nodes labels =
    (length labels ≡ nodes + 1) × ((v : ℕ) → IsNode nodes v → (slice_index labels v ≡ no_label) ⊎ (slice_index labels v ≤ nodes))

-- Labels that lead to the goal along least paths. A node without one counts as some level, no link with room falls by more than one
-- where it leads below `top`, and no walk goes through a node without a label.
pub record AreSound (l : Links) (labels rooms : List ℕ) (top : ℕ) : Type 0 where
  pub counts : List ℕ
  pub small : AreSmall l.nodes labels
  pub filled_are : (v : ℕ) → IsNode l.nodes v → slice_index labels v ≢ no_label → slice_index counts v ≡ slice_index labels v
  pub valid : AreValid l counts rooms top
  pub gated : IsGated l labels rooms counts

-- Labels of all nodes from which paths lead to the goal: no link with room falls by more than one, and none leads from a node without a
-- label to one with a label.
pub record AreWhole (l : Links) (labels rooms : List ℕ) : Type 0 where
  pub small : AreSmall l.nodes labels
  pub valid : AreValid l labels rooms no_label

-- Sound labels, by which the start has one that is not below the goal's.
pub record AreSoundBetween (l : Links) (rooms labels : List ℕ) (start goal : ℕ) : Type 0 where
  pub sound : AreSound l labels rooms (slice_index labels start)
  pub start_label : slice_index labels start ≤ l.nodes
  pub low : slice_index labels goal ≤ slice_index labels start

-- The start has a label, and a walk leads from it to the goal, as least paths do.
pub record IsLabelled (l : Links) (rooms labels : List ℕ) (start goal : ℕ) : Type 0 where
  pub sound : AreSound l labels rooms (slice_index labels start)
  pub start_label : slice_index labels start ≤ l.nodes
  pub walk : (ps : List ℕ) × IsWalk l labels rooms goal start ps
