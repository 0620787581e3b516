use Rattle.std.proofs.Common.{◌≡◌, take}
use Rattle.dmf_c.specs.Gains.{arcs_of}
use Rattle.dmf_c.proofs.gains.arcs_of.Given as goal

-- the arcs of the numbers before the index
abbrev pub invariant-loop-i : goal.invariant-loop-i
invariant-loop-i l = l.arcs.items ≡ arcs_of l.state.network (take l.i l.numbers)
