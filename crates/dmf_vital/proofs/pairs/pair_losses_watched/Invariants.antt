use Rattle.std.proofs.Common.{ℕ, ◌≡◌, ◌<◌, get_or, length}
use Rattle.dmf_vital.specs.Loss.{IsLossOfPair}
use Rattle.dmf_vital.specs.Rest.{IsRest, IsWhole}
use Rattle.dmf_vital.proofs.pairs.pair_losses_watched.Given as goal

abbrev pub invariant-loop-k : goal.invariant-loop-k
invariant-loop-k g l = record {
  whole : IsWhole l.state l.whole;
  rest : IsRest l.state.network l.rest;
  one_each : length l.losses.items ≡ length l.firsts;
  losses : (i : ℕ) → i < l.k → IsLossOfPair l.state.network (get_or l.firsts i 0) (get_or l.seconds i 0) (get_or l.losses.items i 0);
}
