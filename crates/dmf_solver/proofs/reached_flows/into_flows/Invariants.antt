use Rattle.std.proofs.Common.{◌≡◌, take}
use Rattle.dmf_solver.proofs.reached_flows.into_flows.Given as goal

abbrev pub invariant-loop-k : goal.invariant-loop-k
invariant-loop-k l = l.flows.items ≡ take l.k l.reached
