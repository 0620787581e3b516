use Rattle.std.proofs.Common.{◌≡◌}
use Rattle.dmf_vital.specs.Entering.{AreWorstUpTo}
use Rattle.dmf_vital.specs.Rest.{IsRest}
use Rattle.dmf_vital.specs.Worst.{IsPairLossAmong}
use Rattle.dmf_vital.proofs.pairs.consider_first.Given as goal

abbrev pub invariant-loop-k : goal.invariant-loop-k
invariant-loop-k g l = record {
  rest : IsRest l.state.network l.rest;
  without : l.rest.without ≡ l.i;
  worst : AreWorstUpTo (IsPairLossAmong l.state.network l.among) l.i l.k l.limits l.worst.items;
}
