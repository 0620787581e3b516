-- A breadth-first search as contracts see it.
-- Private: only contracts inside the crate and proofs use this.
use Rattle.std.specs.Prelude.{ℕ, List, slice_index}

-- the nodes at which the search began; for each node its label; the nodes with labels; and of how many of these it has looked at the links
pub record Reach : Type 0 where
  pub roots : List ℕ
  pub labels : List ℕ
  pub queue : List ℕ
  pub done : ℕ

-- the node at which the search began, if there is but one
abbrev pub root_of : Reach → ℕ
root_of f = slice_index f.roots 0
