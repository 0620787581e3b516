use Rattle.std.proofs.Common.{ℕ, ◌≡◌, ◌+◌, ◌<◌, length, get_or}
use Rattle.dmf_vital.proofs.loss.numbers_to.Given as goal

abbrev pub invariant-loop-k : goal.invariant-loop-k
invariant-loop-k l = record {
  count : length l.numbers.items ≡ l.last;
  each : (i : ℕ) → i < l.k → get_or l.numbers.items i 0 ≡ i + 1;
}
