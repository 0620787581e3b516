-- Lists of steps between nodes.
-- Private: only contracts inside the crate and proofs use this.
use Rattle.std.specs.Prelude.{ℕ, ◌<◌, List, All, AllPairs}
use Rattle.dmf_node.specs.Node.{IsNode}
use Rattle.dmf_path.specs.Step.{Step}

-- Both ends of the step are nodes.
abbrev pub IsStep : ℕ → Step → Type 0
IsStep nodes s = IsNode nodes s.from × IsNode nodes s.to

-- The steps are between nodes, and their list is in the order of their ranks, which all differ.
pub record AreSteps (nodes : ℕ) (steps : List Step) : Type 0 where
  pub between : All (IsStep nodes) steps
  pub ascending : AllPairs (λ s t. s.rank < t.rank) steps
