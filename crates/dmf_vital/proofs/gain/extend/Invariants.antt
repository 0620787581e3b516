use Rattle.std.proofs.Common.{◌≡◌, length}
use Rattle.dmf_vital.specs.Extended.{ArePlaced, IsExtended}
use Rattle.dmf_vital.proofs.gain.extend.Given as goal

abbrev pub invariant-loop-k : goal.invariant-loop-k
invariant-loop-k l = record {
  extended : IsExtended l.state.network l.more.network 0;
  one_each : length l.firsts.items ≡ length l.arcs;
  placed : ArePlaced l.state.network l.more.network l.arcs l.firsts.items l.k;
}
