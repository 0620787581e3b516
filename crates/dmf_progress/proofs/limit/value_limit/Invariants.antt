use Rattle.std.proofs.Common.{◌≡◌, ◌==◌, not, sum_by, take}
use Rattle.dmf_progress.proofs.Limits.{carried_out}
use Rattle.dmf_progress.proofs.limit.value_limit.Given as goal

-- the sums over the arcs before this one
abbrev pub invariant-loop-arc : goal.invariant-loop-arc
invariant-loop-arc l = record {
  out : l.out ≡ sum_by (carried_out (λ u. u == l.source)) (take l.arc-index l.arcs);
  into : l.into ≡ sum_by (carried_out (λ u. not (u == l.sink))) (take l.arc-index l.arcs);
}
