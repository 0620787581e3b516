use Rattle.std.proofs.Common.{◌≢◌, ℕ, ◌<◌}
use Rattle.dmf_path.specs.Held.{slot_at}
use Rattle.dmf_path.proofs.trail.Trail.first_full.Given as goal

abbrev pub invariant-loop-i : goal.invariant-loop-i
invariant-loop-i l = (i : ℕ) → i < l.i → (slot_at l.self.slots.items i).full_at ≢ l.self.sent
