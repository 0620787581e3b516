use Rattle.std.proofs.Common.{◌≡◌, take, replicate}
use Rattle.dmf_path.specs.Labels.{no_label}
use Rattle.dmf_path.proofs.label.clear.Given as goal

abbrev pub invariant-loop-label : goal.invariant-loop-label
invariant-loop-label l = take l.label-index l.labels ≡ replicate l.label-index no_label
