-- A set of nodes with the start and without the goal that no step leaves: a cut without room. Or that steps leave between known nodes.
-- Public: a public contract says no more than this.
use Rattle.std.specs.Prelude.{ℕ, ◌≡◌, ◌-◌, Bool, false, List, length, slice_index_or, Contains, IsTrue}
use Rattle.dmf_node.specs.Node.{IsNode}
use Rattle.dmf_path.specs.Path.{IsPath}
use Rattle.dmf_path.specs.Step.{Step}
use Rattle.dmf_path.specs.declared.search.through.Passage.{Passage}
use Rattle.dmf_path.specs.declared.search.through.Passage.TheVariants.{Once, Closed, Unknown}
use Rattle.dmf_path.specs.declared.through.WaysOut.{WaysOut}

-- whether the node is marked; the first mark belongs to node 1
abbrev pub is_marked : List Bool → ℕ → Bool
is_marked marks v = slice_index_or marks (v - 1) false

-- The start is marked, the goal is not, and no step leads from a marked node to one that is not.
pub record IsClosedSide (steps : List Step) (start goal : ℕ) (marks : List Bool) : Type 0 where
  pub start_in : IsTrue (is_marked marks start)
  pub goal_out : ¬ IsTrue (is_marked marks goal)
  pub none_leaves : (step : Step) → Contains steps step → IsTrue (is_marked marks step.from) → IsTrue (is_marked marks step.to)

-- The start and the tails are marked, the goal and the heads are not, and each step from a marked node to one that is not leads from one
-- of the tails to one of the heads. There is a mark for each node.
pub record HasWaysOut (nodes : ℕ) (steps : List Step) (start goal : ℕ) (ways : WaysOut) (marks : List Bool) : Type 0 where
  pub one_each : length marks ≡ nodes
  pub start_in : IsTrue (is_marked marks start)
  pub goal_out : ¬ IsTrue (is_marked marks goal)
  pub tails_in : (v : ℕ) → Contains ways.tails.items v → IsNode nodes v × IsTrue (is_marked marks v)
  pub heads_out : (v : ℕ) → Contains ways.heads.items v → IsNode nodes v × (¬ IsTrue (is_marked marks v))
  pub leaves : (step : Step) → Contains steps step → IsTrue (is_marked marks step.from) → ¬ IsTrue (is_marked marks step.to)
      → Contains ways.tails.items step.from × Contains ways.heads.items step.to

-- No path of so many steps has one that leads to a marked node from one that is not.
abbrev pub NoneReturns : List Step → ℕ → ℕ → ℕ → List Bool → Type 0
NoneReturns steps start goal long marks =
    (path : List Step) → IsPath steps start goal path → length path ≡ long
    → (step : Step) → Contains path step → IsTrue (is_marked marks step.to) → IsTrue (is_marked marks step.from)

-- What is known of paths, by marks with ways out: only where no path is left do the marks change.
abbrev pub IsPassage : List Step → ℕ → ℕ → List Bool → List Bool → Passage → Type 0
IsPassage steps start goal before after (Once long) = NoneReturns steps start goal long before × (after ≡ before)
IsPassage steps start goal before after Closed = IsClosedSide steps start goal after
IsPassage steps start goal before after Unknown = after ≡ before
