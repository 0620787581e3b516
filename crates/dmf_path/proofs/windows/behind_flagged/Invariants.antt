use Rattle.std.proofs.Common.{◌≢◌, ℕ, ◌≤◌, ◌<◌, slice_index}
use Rattle.dmf_path.proofs.windows.behind_flagged.Given as goal

abbrev pub invariant-loop-behind : goal.invariant-loop-behind
invariant-loop-behind l = record {
  from : l.from ≤ l.behind;
  to : l.behind ≤ l.end;
  none : (p : ℕ) → l.behind ≤ p → p < l.end → slice_index l.flags p ≢ 1;
}

abbrev pub decreases-loop-behind : goal.decreases-loop-behind
decreases-loop-behind l = l.behind
