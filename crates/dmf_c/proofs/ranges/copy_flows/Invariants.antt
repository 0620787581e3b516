use Rattle.std.proofs.Common.{◌≡◌, ℕ, ◌+◌, ◌-◌, ◌<◌, slice_index, slice_index_or}
use Rattle.dmf_c.proofs.ranges.copy_flows.Given as goal

-- what stands before the index is there
abbrev pub invariant-loop-i : goal.invariant-loop-i
invariant-loop-i l = (k : ℕ) → k < l.i → slice_index l.flows k ≡ slice_index_or l.all (l.first + k - 1) 0
