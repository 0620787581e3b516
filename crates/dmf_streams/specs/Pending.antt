-- What an input keeps between two bytes.
-- Private: only contracts inside the crate and proofs use this.
use Rattle.std.specs.Prelude.{ℕ, List}

-- the bytes that were read and not yet taken, and how many were taken
pub record Pending : Type 0 where
  pub bytes : List ℕ
  pub count : ℕ
