use Rattle.std.proofs.Common.{◌≡◌, true, take}
use Rattle.dmf_c.specs.Losses.{are_arcs}
use Rattle.dmf_c.proofs.losses.are_arcs.Given as goal

-- those before the index are numbers of arcs
abbrev pub invariant-loop-i : goal.invariant-loop-i
invariant-loop-i l = are_arcs l.state.network (take l.i l.numbers) ≡ true
