use Rattle.std.proofs.Common.{◌≢◌, ℕ, ◌+◌, ◌≤◌, ◌<◌, slice_index}
use Rattle.dmf_path.proofs.residual.Residual.first_admissible.Given as goal

abbrev pub invariant-loop-place : goal.invariant-loop-place
invariant-loop-place l =
    (p : ℕ) → l.from ≤ p → p < l.place → 0 < slice_index l.self.rooms.items p
    → slice_index l.labels (slice_index l.self.table.value.heads.items p) + 1 ≢ l.label
