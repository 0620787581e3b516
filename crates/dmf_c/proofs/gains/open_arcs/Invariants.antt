use Rattle.std.proofs.Common.{◌≡◌, ◌++◌, drop, length}
use Rattle.dmf_c.specs.Gains.{open_arcs}
use Rattle.dmf_c.proofs.gains.open_arcs.Given as goal

-- those that are left follow, and then all are there
abbrev pub invariant-loop-i : goal.invariant-loop-i
invariant-loop-i l =
    (l.arcs.items ++ open_arcs (drop l.i l.tails) (drop l.i l.heads) (drop l.i l.capacities) ≡ open_arcs l.tails l.heads l.capacities) × (length l.arcs.items ≡ l.i)
