use Rattle.std.proofs.Common.{◌≡◌, true, take}
use Rattle.dmf_c.specs.Losses.{are_nodes}
use Rattle.dmf_c.proofs.losses.are_nodes.Given as goal

-- those before the index are numbers of nodes
abbrev pub invariant-loop-i : goal.invariant-loop-i
invariant-loop-i l = are_nodes l.state.network (take l.i l.numbers) ≡ true
