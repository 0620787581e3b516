use Rattle.std.proofs.Common.{◌≡◌, length, vec_capacity}
use Rattle.dmf_path.proofs.trail.make_slots.Given as goal

abbrev pub invariant-loop : goal.invariant-loop
invariant-loop l = record {
  count : length l.slots.items ≡ l.counter;
  slots_capacity : vec_capacity l.slots ≡ vec_capacity l.fn.slots;
}
