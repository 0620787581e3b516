use Rattle.std.proofs.Common.{◌≢◌, ℕ, ◌≤◌, ◌<◌, length}
use Rattle.dmf_path.specs.Held.{slot_at}
use Rattle.dmf_path.proofs.trail.Trail.behind_last_full.Given as goal

abbrev pub invariant-loop-behind : goal.invariant-loop-behind
invariant-loop-behind l = record {
  within : l.behind ≤ length l.self.slots.items;
  open_links : (i : ℕ) → l.behind ≤ i → i < length l.self.slots.items → (slot_at l.self.slots.items i).full_at ≢ l.self.sent;
}

abbrev pub decreases-loop-behind : goal.decreases-loop-behind
decreases-loop-behind l = l.behind
