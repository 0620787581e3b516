-- A phase of a search: what its calls keep, and how they leave it.
-- Private: only contracts inside the crate and proofs use this.
use Rattle.std.specs.Prelude.{ℕ, ◌≡◌, ◌≢◌, Bool, true, false, List, [], Option, Vec}
use Rattle.std.specs.declared.alloc.Global.{Global}
use Rattle.std.specs.declared.rc.Rc.{Rc}
use Rattle.dmf_node.specs.Node.{IsNode}
use Rattle.dmf_links.specs.LinkTable.{links_of}
use Rattle.dmf_links.specs.Links.{ArePlaces}
use Rattle.dmf_links.specs.Numbers.{MayBeNumbered}
use Rattle.dmf_path.specs.declared.aside.Aside.{Aside}
use Rattle.dmf_path.specs.declared.aside.Ends.{Ends}
use Rattle.dmf_path.specs.declared.ball.Ball.{Ball}
use Rattle.dmf_path.specs.declared.levels.Levels.{Levels}
use Rattle.dmf_path.specs.declared.residual.Residual.{Residual}
use Rattle.dmf_path.specs.declared.trail.Trail.{Trail}
use Rattle.dmf_path.specs.Ball.{IsAround, IsFit}
use Rattle.dmf_path.specs.Held.{way_of, filled_slots}
use Rattle.dmf_path.specs.Residual.{ResidualLinks, residual_of}
use Rattle.dmf_path.specs.Searching.{Sought, sought, AreAside, IsFound, IsFresh, IsParted}
use Rattle.dmf_path.specs.Walk.{IsWalk}

-- the links with their rooms, the labels with the current links, the nodes near some goal, and the trail
pub record Phased : Type 0 where
  pub links : Residual
  pub levels : Levels
  pub ball : Ball
  pub trail : Trail

-- the settled residual network in which a phase looks for paths, and their ends
abbrev pub sought_by : Phased → Sought
sought_by p = sought (residual_of p.links) (way_of p.trail)

-- the same network between these ends
abbrev pub sought_at : Sought → Ends → Sought
sought_at s ends = record { residual = s.residual; start = ends.start; goal = ends.goal }

-- another network between the same ends
abbrev pub with_residual : Sought → ResidualLinks → Sought
with_residual s r = record { residual = r; start = s.start; goal = s.goal }

-- The ends of the paths are two nodes.
pub record HasEnds (s : Sought) : Type 0 where
  pub start_is : IsNode s.residual.links.nodes s.start
  pub goal_is : IsNode s.residual.links.nodes s.goal
  pub apart : s.start ≢ s.goal

-- The links are a walk from the start to the goal, along these labels.
abbrev pub IsWalkBy : Sought → List ℕ → List ℕ → Type 0
IsWalkBy s labels ps = IsWalk s.residual.links labels s.residual.rooms s.goal s.start ps

-- No path is left, and the marks, if there is one for each node, are those of the start's side.
abbrev pub IsPartedBy : Sought → List Bool → Type 0
IsPartedBy s marks = IsParted s.residual.links s.residual.rooms s.start s.goal marks

-- The walk has come to the rest of the last path.
abbrev pub IsFoundBy : Phased → Type 0
IsFoundBy p = IsFound (residual_of p.links) (way_of p.trail)

-- No push is held.
abbrev pub IsSettled : Phased → Type 0
IsSettled p = (sought_by p).residual ≡ residual_of p.links

-- The phase has gone on in the same network between the same ends. What it knows of the nodes near a goal is about this one.
pub record GoesOn (old new : Phased) : Type 0 where
  pub same : sought_by new ≡ sought_by old
  pub around : IsAround new.ball new.trail.goal

-- It has done so, and if it says so, it has found a path.
pub record HasGoneOn (old new : Phased) (found : Bool) : Type 0 where
  pub on : GoesOn old new
  pub found_is : found ≡ true → IsFoundBy new

-- The network, the ends, the labels and what is known of the nodes near a goal are the same.
pub record IsAlike (old new : Phased) : Type 0 where
  pub same : sought_by new ≡ sought_by old
  pub levels : new.levels ≡ old.levels
  pub ball : new.ball ≡ old.ball

-- All pushes were applied, and all links have left their slots.
pub record Settles (old new : Phased) : Type 0 where
  pub alike : IsAlike old new
  pub settled : IsSettled new
  pub free : filled_slots (way_of new.trail) ≡ []

-- The phase has not begun: no link falls, whatever the rooms are, and no labels last.
pub record HasNotBegun (p : Phased) : Type 0 where
  pub fresh : IsFresh (links_of p.links.table.value) p.levels.near.labels p.trail.start
  pub none_last : p.levels.all ≡ false

-- Nor does it know of nodes near a goal. So rooms may rise.
pub record MayRise (p : Phased) : Type 0 where
  pub fresh : HasNotBegun p
  pub fit : (r : ResidualLinks) → IsFit p.ball r

-- What the mark as fresh says about a phase.
pub data IsMarked (p : Phased) (is_fresh : Bool) : Type 0 where
  begun : is_fresh ≡ false → IsMarked p is_fresh
  fresh : HasNotBegun p → IsMarked p is_fresh

-- What a search keeps beside its phase: the places of the pairs, the numbers of the links, and other labels.
pub record IsSearch (s : Sought) (places : List ℕ) (numbers : Option (Rc (Vec ℕ Global) Global)) (asides : List Aside) : Type 0 where
  pub places_are : ArePlaces s.residual.links places
  pub numbers_are : MayBeNumbered s.residual.links places numbers
  pub asides_are : AreAside asides s.residual
