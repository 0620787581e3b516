-- Cuts, as the textbooks have them (Ahuja, Magnanti and Orlin, Network Flows, section 6.3).
-- Public: a public contract says no more than this.
use Rattle.std.specs.Prelude.{ℕ, ◌≡◌, ◌≤◌, Bool, true, false, not, ◌&&◌, if◌then◌else◌, List, sum_by, ℤ, pos}
use Rattle.dmf_state.specs.declared.arc.Arc.{Arc}
use Rattle.dmf_node.specs.Node.{IsNode}
use Rattle.dmf_state.specs.Network.{Network}

-- A cut is a set of nodes that has the source and not the sink. A set is given by its test: whether it has a node.
pub record IsCut (n : Network) (has : ℕ → Bool) : Type 0 where
  pub of_nodes : (v : ℕ) → has v ≡ true → IsNode n.nodes v
  pub source : has n.source ≡ true
  pub sink : has n.sink ≡ false

-- the sum of the capacities of the arcs that lead out of the set
abbrev pub cut_capacity : List Arc → (ℕ → Bool) → ℕ
cut_capacity arcs has = sum_by (λ arc. if has arc.tail && not (has arc.head) then arc.cap else 0) arcs

-- No cut has a smaller capacity.
pub record IsMinimumCut (n : Network) (has : ℕ → Bool) : Type 0 where
  pub cut : IsCut n has
  pub least : (other : ℕ → Bool) → IsCut n other → cut_capacity n.arcs has ≤ cut_capacity n.arcs other

-- Every minimum cut has node `v`. These nodes are the smallest side of the network.
abbrev pub IsInEveryMinimumCut : Network → ℕ → Type 0
IsInEveryMinimumCut n v = (has : ℕ → Bool) → IsMinimumCut n has → has v ≡ true

-- Some cut has this capacity.
pub record HasCutOf (n : Network) (value : ℤ) : Type 0 where
  pub has : ℕ → Bool
  pub cut : IsCut n has
  pub capacity : pos (cut_capacity n.arcs has) ≡ value

-- Some minimum cut has this capacity.
pub record HasMinimumCutOf (n : Network) (value : ℤ) : Type 0 where
  pub has : ℕ → Bool
  pub least : IsMinimumCut n has
  pub capacity : pos (cut_capacity n.arcs has) ≡ value
