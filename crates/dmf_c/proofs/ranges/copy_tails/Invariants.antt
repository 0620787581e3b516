use Rattle.std.proofs.Common.{◌≡◌, ℕ, ◌+◌, ◌-◌, ◌<◌, slice_index, slice_index_or}
use Rattle.dmf_state.specs.Arc.{no_arc}
use Rattle.dmf_c.proofs.ranges.copy_tails.Given as goal

-- what stands before the index is there
abbrev pub invariant-loop-i : goal.invariant-loop-i
invariant-loop-i l = (k : ℕ) → k < l.i → slice_index l.tails k ≡ (slice_index_or l.arcs (l.first + k - 1) no_arc).tail
