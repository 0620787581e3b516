use Rattle.std.proofs.Common.{◌≡◌, take}
use Rattle.dmf_path.specs.Held.{way_of}
use Rattle.dmf_path.specs.Residual.{residual_of, with_settled_rooms}
use Rattle.dmf_path.proofs.reach.settled_rooms.Given as goal

abbrev pub invariant-loop-place : goal.invariant-loop-place
invariant-loop-place l = l.settled.items ≡ take l.place (with_settled_rooms (residual_of l.links) (way_of l.trail)).rooms
