use Rattle.std.proofs.Common.{◌≡◌, ℕ, ◌+◌, ◌-◌, ◌<◌, slice_index, slice_index_or}
use Rattle.dmf_state.specs.Arc.{no_arc}
use Rattle.dmf_c.specs.Ranges.{closed_mark}
use Rattle.dmf_c.proofs.ranges.mark_closed.Given as goal

-- what stands before the index is there
abbrev pub invariant-loop-i : goal.invariant-loop-i
invariant-loop-i l = (k : ℕ) → k < l.i → slice_index l.marks k ≡ closed_mark (slice_index_or l.arcs (l.first + k - 1) no_arc).closed
