-- What an arc or a node is worth: how much of the greatest value is lost without it. The most vital arc is one whose loss is greatest
-- (Wollmer 1963).
-- Public: a public contract says no more than this.
use Rattle.std.specs.Prelude.{ℕ, ◌≡◌, ◌+◌, ◌*◌, ◌^◌, ◌<◌, ◌≤◌, true, List, length, All}
use Rattle.dmf_state.specs.declared.arc.Arc.{Arc}
use Rattle.dmf_state.specs.Arc.{IsArc, capacity_sum}
use Rattle.dmf_state.specs.Flow.{IsInnerNode}
use Rattle.dmf_state.specs.Network.{Network, arc_number, has_arc}
use Rattle.dmf_vital.specs.GreatestValue.{IsGreatestValue}
use Rattle.dmf_vital.specs.Without.{without_arc, without_node, without_pair, with_new_arc}

-- The greatest value of network `m` is less than that of network `n` by this loss.
pub record IsLoss (n m : Network) (loss : ℕ) : Type 0 where
  pub before : ℕ
  pub after : ℕ
  pub greatest_before : IsGreatestValue n before
  pub greatest_after : IsGreatestValue m after
  pub difference : after + loss ≡ before

-- There is an arc number `j`, and this is lost without it.
abbrev pub IsLossOfArc : Network → ℕ → ℕ → Type 0
IsLossOfArc n j loss = (has_arc n j ≡ true) × IsLoss n (without_arc n j) loss

-- There are arcs number `i` and `j`, and this is lost without both.
abbrev pub IsLossOfPair : Network → ℕ → ℕ → ℕ → Type 0
IsLossOfPair n i j loss = (has_arc n i ≡ true) × (has_arc n j ≡ true) × IsLoss n (without_pair n i j) loss

-- `v` is a node other than the source and the sink, and this is lost without it.
abbrev pub IsLossOfNode : Network → ℕ → ℕ → Type 0
IsLossOfNode n v loss = IsInnerNode n v × IsLoss n (without_node n v) loss

-- This is lost without node `v`; 0 if it is the source or the sink.
pub record IsLossAt (n : Network) (v loss : ℕ) : Type 0 where
  pub inner : IsInnerNode n v → IsLossOfNode n v loss
  pub source : v ≡ n.source → loss ≡ 0
  pub sink : v ≡ n.sink → loss ≡ 0

-- The greatest value rises by this gain if the network gets one more arc, like this one.
abbrev pub IsGainOfArc : Network → Arc → ℕ → Type 0
IsGainOfArc n arc gain = IsLoss (with_new_arc n arc) n gain

-- There is an arc number `j`, and a second arc beside it gains this.
abbrev pub IsGainOfSecond : Network → ℕ → ℕ → Type 0
IsGainOfSecond n j gain = (has_arc n j ≡ true) × IsGainOfArc n (arc_number n j) gain

-- These are arcs between nodes of the network, and it can take four more arcs of the capacity of each of them.
pub record TakesFourOfEach (n : Network) (arcs : List Arc) : Type 0 where
  pub ends : All (IsArc n.nodes) arcs
  pub few : length n.arcs + 4 * length arcs ≤ 2 ^ 27
  pub small : capacity_sum n.arcs + 4 * capacity_sum arcs < 2 ^ 64

-- Arc number `j` is a most vital arc: without no other arc is more lost.
pub record IsMostVital (n : Network) (j loss : ℕ) : Type 0 where
  pub own : IsLossOfArc n j loss
  pub most : (i other : ℕ) → IsLossOfArc n i other → other ≤ loss
