-- The smallest side of a network: the nodes that every minimum cut has (Ahuja, Magnanti and Orlin, Network Flows, section 6.3).
-- Public: a public contract says no more than this.
use Rattle.std.specs.Prelude.{ℕ, ◌≡◌, ◌==◌, ◌↔◌, Bool, IsTrue, List}
use Rattle.std.specs.List.{list_any}
use Rattle.std.specs.List.Sorted.{IsStrictlyIncreasing}
use Rattle.dmf_node.specs.Node.{IsNode}
use Rattle.dmf_state.specs.Network.{Network}
use Rattle.dmf_state.specs.Cut.{IsMinimumCut, IsInEveryMinimumCut, cut_capacity}

-- What a `Side` is to its callers: a list of nodes, and a capacity.
pub record CutSide : Type 0 where
  pub ids : List ℕ
  pub capacity : ℕ

-- whether node `v` is in the list
abbrev pub has_node : List ℕ → ℕ → Bool
has_node ids v = list_any (λ u. u == v) ids

-- The list has the nodes that every minimum cut has, and no others, in ascending order. They are a minimum cut, and the capacity is its
-- capacity.
pub record IsSmallestSide (n : Network) (side : CutSide) : Type 0 where
  pub ascending : IsStrictlyIncreasing side.ids
  pub in_every : (v : ℕ) → IsTrue (has_node side.ids v) ↔ (IsNode n.nodes v × IsInEveryMinimumCut n v)
  pub least : IsMinimumCut n (has_node side.ids)
  pub capacity_is : side.capacity ≡ cut_capacity n.arcs (has_node side.ids)
