use Rattle.std.proofs.Common.{◌≡◌, ℕ, ◌<◌, ◌≤◌, length, slice_index, slice_index_or}
use Rattle.dmf_c.specs.Worst.{no_loss}
use Rattle.dmf_c.proofs.worst.put_numbers.Given as goal

-- what stands before the index is there, and the others are as before
abbrev pub invariant-loop-i : goal.invariant-loop-i
invariant-loop-i l =
    ((k : ℕ) → k < l.i → slice_index l.numbers k ≡ (slice_index_or l.worst k no_loss).number) × ((k : ℕ) → l.i ≤ k → k < length l.numbers → slice_index l.numbers k ≡ slice_index l.fn.numbers k)
