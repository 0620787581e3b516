use Rattle.std.proofs.Common.{ℕ, ◌≡◌, ◌+◌, ◌<◌, false, slice_index, slice_index_or}
use Rattle.dmf_path.specs.Labels.{is_label}
use Rattle.dmf_path.proofs.mark.mark_labelled.Given as goal

abbrev pub invariant-loop-k : goal.invariant-loop-k
invariant-loop-k l = (j : ℕ) → j < l.k → slice_index_or l.marks j false ≡ is_label (slice_index l.labels (j + 1))
