use Rattle.std.proofs.Common.{◌≡◌, ◌+◌, ◌*◌, ◌^◌, take}
use Rattle.dmf_state.specs.Arc.{capacity_sum}
use Rattle.dmf_vital.proofs.gain.check_room.Given as goal

abbrev pub invariant-loop-k : goal.invariant-loop-k
invariant-loop-k l = l.left + 4 * capacity_sum (take l.k l.arcs) + capacity_sum l.state.network.arcs + 1 ≡ 2 ^ 64
