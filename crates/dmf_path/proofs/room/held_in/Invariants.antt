use Rattle.std.proofs.Common.{◌≡◌, drop}
use Rattle.dmf_path.specs.Held.{held_in, HaveLeft}
use Rattle.dmf_path.proofs.room.held_in.Given as goal

abbrev pub invariant-loop-slot : goal.invariant-loop-slot
invariant-loop-slot l = record {
  goes_on : held_in l.sent l.rooms (drop l.slot-index l.slots) l.place ≡ held_in l.sent l.rooms l.slots l.place;
  have : HaveLeft l.sent l.rooms (drop l.slot-index l.slots);
}
