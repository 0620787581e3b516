-- What is kept of a line.
-- Private: only contracts inside the crate and proofs use this.
use Rattle.std.specs.Prelude.{ℕ, ◌≡◌, List, length, take, nat_lt, Bool}

-- the first bytes of a line, and whether it has more than a line may have
pub record Kept : Type 0 where
  pub bytes : List ℕ
  pub is_long : Bool

-- This is kept of a line with these bytes.
pub record IsKept (kept : Kept) (line : List ℕ) : Type 0 where
  pub bytes_are : kept.bytes ≡ take 4096 line
  pub long_is : kept.is_long ≡ nat_lt 4096 (length line)
