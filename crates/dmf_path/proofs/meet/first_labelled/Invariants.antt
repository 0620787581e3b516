use Rattle.std.proofs.Common.{◌≡◌, ℕ, ◌<◌, slice_index}
use Rattle.dmf_path.specs.Labels.{no_label}
use Rattle.dmf_path.proofs.meet.first_labelled.Given as goal

abbrev pub invariant-loop-node : goal.invariant-loop-node
invariant-loop-node l = (i : ℕ) → i < l.node-index → slice_index l.labels (slice_index l.nodes i) ≡ no_label
