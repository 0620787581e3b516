-- Steps between nodes.
-- Public: a public contract says no more than this.
use Rattle.std.specs.Prelude.{ℕ}

-- A step from one node to another, which can carry at most `room`. Its rank breaks the ties between paths of the same length.
pub record Step : Type 0 where
  pub from : ℕ
  pub to : ℕ
  pub rank : ℕ
  pub room : ℕ
