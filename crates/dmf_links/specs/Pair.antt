-- Pairs of opposite links.
-- Public: a public contract says no more than this.
use Rattle.std.specs.Prelude.{ℕ, ◌≡◌, ◌≢◌, ◌+◌, ◌^◌, ◌<◌, ◌≤◌, List, length, slice_get, slice_index_or, Option, Some, None}
use Rattle.dmf_node.specs.Node.{IsNode}
use Rattle.dmf_links.specs.declared.pair.Pair.{Pair}

-- Both ends are nodes and differ, and the sum of both rooms fits 64 bits.
pub record IsPair (nodes : ℕ) (p : Pair) : Type 0 where
  pub tail : IsNode nodes p.tail
  pub head : IsNode nodes p.head
  pub no_loop : p.tail ≢ p.head
  pub fits : p.along + p.against < 2 ^ 64

-- Each entry that has a pair has a valid one, and there are at most as many as arcs and one more.
pub record ArePairs (nodes : ℕ) (pairs : List (Option Pair)) : Type 0 where
  pub each : (k : ℕ) (p : Pair) → slice_get pairs k ≡ Some (Some p) → IsPair nodes p
  pub at_most : length pairs ≤ 2 ^ 27 + 1

-- the same pair without room
abbrev pub without_room : Option Pair → Option Pair
without_room None = None
without_room (Some p) = Some (record { tail = p.tail; head = p.head; along = 0; against = 0 })

-- the pair at index `k`
abbrev pub pair_number : List (Option Pair) → ℕ → Option Pair
pair_number pairs k = slice_index_or pairs k None
