use Rattle.std.proofs.Common.{arith}
use Rattle.dmf_state.proofs.OverCapacity.{within-from_below}
use Rattle.dmf_state.proofs.flow_sums.first_over_capacity.Goals as goal

pub returns : goal.returns
returns c = within-from_below _ _ c.requires.one_flow_each (λ k h. c.loop-i.invariant k (omega (arith, c.loop-i-test.false)))
