use Rattle.dmf_vital.specs.Extended.{IsExtended, KeepsArcs}
use Rattle.dmf_vital.proofs.gain.add_own.Given as goal

abbrev pub invariant-loop-k : goal.invariant-loop-k
invariant-loop-k l = record {
  extended : IsExtended l.state.network l.more.network l.k;
  keeps : KeepsArcs l.initial.more.network l.more.network;
}
