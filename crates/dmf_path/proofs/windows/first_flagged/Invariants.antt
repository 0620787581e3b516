use Rattle.std.proofs.Common.{◌≢◌, ℕ, ◌≤◌, ◌<◌, slice_index}
use Rattle.dmf_path.proofs.windows.first_flagged.Given as goal

abbrev pub invariant-loop-place : goal.invariant-loop-place
invariant-loop-place l = (p : ℕ) → l.from ≤ p → p < l.place → slice_index l.flags p ≢ 1
