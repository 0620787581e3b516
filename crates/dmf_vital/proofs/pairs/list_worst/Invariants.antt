use Rattle.std.proofs.Common.{◌+◌}
use Rattle.dmf_vital.specs.Entering.{AreWorstUpTo}
use Rattle.dmf_vital.specs.Rest.{IsWhole}
use Rattle.dmf_vital.specs.Worst.{IsPairLossAmong}
use Rattle.dmf_vital.proofs.pairs.list_worst.Given as goal

abbrev pub invariant-loop-k : goal.invariant-loop-k
invariant-loop-k g l = record {
  whole : IsWhole l.state l.whole;
  worst : AreWorstUpTo (IsPairLossAmong l.state.network l.among) (l.k + 1) 0 l.limits l.worst.items;
}
