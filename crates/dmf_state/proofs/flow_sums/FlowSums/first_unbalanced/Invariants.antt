use Rattle.std.proofs.Common.{ℕ}
use Rattle.dmf_state.specs.FlowSums.{IsInnerUpTo, AreSameAt}
use Rattle.dmf_state.proofs.flow_sums.FlowSums.first_unbalanced.Given as goal

abbrev pub invariant-loop-k : goal.invariant-loop-k
invariant-loop-k l = (v : ℕ) → IsInnerUpTo l.k l.source l.sink v → AreSameAt l.self.leaving.items l.self.entering.items v
