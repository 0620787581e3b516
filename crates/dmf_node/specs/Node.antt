-- Nodes are the numbers from 1 to `nodes`.
-- Public: a public contract says no more than this.
use Rattle.std.specs.Prelude.{ℕ, ◌≤◌, Bool, ◌&&◌, nat_le}

-- `v` is one of the nodes 1 to `nodes`.
pub record IsNode (nodes v : ℕ) : Type 0 where
  pub from_one : 1 ≤ v
  pub to_last : v ≤ nodes

-- whether `v` is one of these nodes
abbrev pub is_node : ℕ → ℕ → Bool
is_node nodes v = nat_le 1 v && nat_le v nodes
