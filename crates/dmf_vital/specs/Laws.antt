-- What is true of greatest values and of losses.
-- Public: a public contract says no more than this.
use Rattle.std.specs.Prelude.{ℕ, ◌≡◌, ◌≢◌, ◌+◌, ◌≤◌, Bool, true, List, ◌∷◌}
use Rattle.dmf_state.specs.Flow.{flow_on, IsInnerNode}
use Rattle.dmf_state.specs.Network.{Network, IsNetwork, arc_number, has_arc}
use Rattle.dmf_state.specs.NetworkState.{NetworkState}
use Rattle.dmf_solver.specs.Change.{Close, Shut, Becomes}
use Rattle.dmf_solver.specs.Greatest.{IsGreatest}
use Rattle.dmf_vital.specs.GreatestValue.{IsGreatestValue}
use Rattle.dmf_vital.specs.Kept.{HoldsTail, HoldsNode}
use Rattle.dmf_vital.specs.Loss.{IsLoss, IsLossOfArc, IsLossOfNode, IsLossOfPair, IsGainOfSecond, IsMostVital}
use Rattle.dmf_vital.specs.Through.{flow_through}
use Rattle.dmf_vital.specs.Without.{without_arc, without_node, with_second}
use Rattle.dmf_vital.specs.Worst.{AreWorst, IsArcLoss}
use Rattle.dmf_vital.specs.declared.worst.NumberedLoss.{NumberedLoss}

-- ---- values and losses

-- A network has a greatest value,
abbrev pub HasGreatestValue : Type 0
HasGreatestValue = (n : Network) → IsNetwork n → (value : ℕ) × IsGreatestValue n value

-- and only one.
abbrev pub HasOneGreatestValue : Type 0
HasOneGreatestValue = (n : Network) (value other : ℕ) → IsGreatestValue n value → IsGreatestValue n other → value ≡ other

-- Each arc has a loss,
abbrev pub ArcHasLoss : Type 0
ArcHasLoss = (n : Network) (j : ℕ) → IsNetwork n → has_arc n j ≡ true → (loss : ℕ) × IsLossOfArc n j loss

-- so has each node but the source and the sink,
abbrev pub NodeHasLoss : Type 0
NodeHasLoss = (n : Network) (v : ℕ) → IsNetwork n → IsInnerNode n v → (loss : ℕ) × IsLossOfNode n v loss

-- and only one.
abbrev pub HasOneLoss : Type 0
HasOneLoss = (n m : Network) (loss other : ℕ) → IsLoss n m loss → IsLoss n m other → loss ≡ other

-- ---- changes

-- Closing an arc makes the network without the arc.
abbrev pub ClosingLeavesOut : Type 0
ClosingLeavesOut = (s t : NetworkState) (j : ℕ) → Becomes s (Close j) t → t.network ≡ without_arc s.network j

-- Shutting a node makes the network without the node.
abbrev pub ShuttingLeavesOut : Type 0
ShuttingLeavesOut = (s t : NetworkState) (v : ℕ) → IsNetwork s.network → Becomes s (Shut v) t → t.network ≡ without_node s.network v

-- ---- the loss of an arc

-- Without an arc at most the flow is lost that it carries in a greatest flow.
abbrev pub LossIsAtMostFlow : Type 0
LossIsAtMostFlow = (n : Network) (flows : List ℕ) (j loss : ℕ) → IsNetwork n → IsGreatest n flows → IsLossOfArc n j loss → loss ≤ flow_on flows j

-- So nothing is lost without an arc that carries nothing in some greatest flow.
abbrev pub IdleArcLosesNothing : Type 0
IdleArcLosesNothing = (n : Network) (flows : List ℕ) (j : ℕ) → IsNetwork n → IsGreatest n flows → has_arc n j ≡ true → flow_on flows j ≡ 0
    → IsLossOfArc n j 0

-- Nothing is lost without a self loop.
abbrev pub LoopLosesNothing : Type 0
LoopLosesNothing = (n : Network) (j : ℕ) → IsNetwork n → has_arc n j ≡ true → (arc_number n j).tail ≡ (arc_number n j).head → IsLossOfArc n j 0

-- If no residual path but over the arc itself leads from its tail to its head, all is lost that it carries.
abbrev pub HeldFlowIsLost : Type 0
HeldFlowIsLost = (n : Network) (flows : List ℕ) (j : ℕ) (has : ℕ → Bool) → IsNetwork n → IsGreatest n flows → has_arc n j ≡ true
    → HoldsTail n flows j has → IsLossOfArc n j (flow_on flows j)

-- The loss is the least that the arc carries in any greatest flow: some greatest flow has that on it.
abbrev pub SomeFlowIsLoss : Type 0
SomeFlowIsLoss = (n : Network) (j loss : ℕ) → IsNetwork n → IsLossOfArc n j loss → (flows : List ℕ) × IsGreatest n flows × (flow_on flows j ≡ loss)

-- ---- the loss of a node

-- Without a node at most that is lost which flows through it in a greatest flow.
abbrev pub NodeLossIsAtMostFlow : Type 0
NodeLossIsAtMostFlow = (n : Network) (flows : List ℕ) (v loss : ℕ) → IsNetwork n → IsGreatest n flows → IsLossOfNode n v loss → loss ≤ flow_through n flows v

-- If no residual path but over arcs from the node leads from it to where its arcs carry something, all is lost that flows through it.
abbrev pub HeldNodeFlowIsLost : Type 0
HeldNodeFlowIsLost = (n : Network) (flows : List ℕ) (v : ℕ) (has : ℕ → Bool) → IsNetwork n → IsGreatest n flows → IsInnerNode n v
    → HoldsNode n flows v has → IsLossOfNode n v (flow_through n flows v)

-- ---- the loss of two arcs

-- Any two arcs have a loss,
abbrev pub PairHasLoss : Type 0
PairHasLoss = (n : Network) (i j : ℕ) → IsNetwork n → has_arc n i ≡ true → has_arc n j ≡ true → (loss : ℕ) × IsLossOfPair n i j loss

-- which is at most the flow that both carry in a greatest flow.
abbrev pub PairLossIsAtMostFlow : Type 0
PairLossIsAtMostFlow = (n : Network) (flows : List ℕ) (i j loss : ℕ) → IsNetwork n → IsGreatest n flows → i ≢ j → IsLossOfPair n i j loss
    → loss ≤ flow_on flows i + flow_on flows j

-- ---- the worst

-- The first of the worst arcs is a most vital arc.
abbrev pub WorstIsMostVital : Type 0
WorstIsMostVital = (n : Network) (most : ℕ) (first : NumberedLoss) (rest : List NumberedLoss) → AreWorst (IsArcLoss n) most (first ∷ rest)
    → IsMostVital n first.number first.loss

-- ---- the gain by a second arc

-- Each arc beside which a second one fits has a gain,
abbrev pub SecondHasGain : Type 0
SecondHasGain = (n : Network) (j : ℕ) → IsNetwork n → IsNetwork (with_second n j) → has_arc n j ≡ true → (gain : ℕ) × IsGainOfSecond n j gain

-- which is at most the capacity.
abbrev pub GainIsAtMostCapacity : Type 0
GainIsAtMostCapacity = (n : Network) (j gain : ℕ) → IsNetwork n → IsNetwork (with_second n j) → IsGainOfSecond n j gain → gain ≤ (arc_number n j).cap
