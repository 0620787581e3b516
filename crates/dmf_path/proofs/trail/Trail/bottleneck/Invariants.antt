use Rattle.std.proofs.Common.{◌≡◌, drop}
use Rattle.dmf_path.specs.Held.{least_left}
use Rattle.dmf_path.proofs.trail.Trail.bottleneck.Given as goal

abbrev pub invariant-loop-slot : goal.invariant-loop-slot
invariant-loop-slot l = least_left l.self.sent l.least (drop l.slot-index l.self.slots.items) ≡ least_left l.self.sent l.limit l.self.slots.items
