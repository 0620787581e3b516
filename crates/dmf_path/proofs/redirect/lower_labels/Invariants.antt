use Rattle.std.proofs.Common.{◌≡◌, slice_index}
use Rattle.dmf_path.specs.Residual.{residual_of}
use Rattle.dmf_path.specs.Searching.{AreLowered}
use Rattle.dmf_path.proofs.redirect.lower_labels.Given as goal

abbrev pub invariant-loop : goal.invariant-loop
invariant-loop l = record {
  lowered : AreLowered (residual_of l.links) (record { labels = l.fn.near.labels; current = l.fn.current }) (record { labels = l.near.labels; current = l.current });
  start : slice_index l.near.labels l.start ≡ slice_index l.fn.near.labels l.start;
}
