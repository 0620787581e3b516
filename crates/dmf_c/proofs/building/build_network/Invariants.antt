use Rattle.std.proofs.Common.{◌≡◌, drop}
use Rattle.dmf_c.specs.Building.{built}
use Rattle.dmf_c.proofs.building.build_network.Given as goal

-- what is left to build gives what was to be built
abbrev pub invariant-loop-i : goal.invariant-loop-i
invariant-loop-i l =
    built l.i l.state (drop l.i l.tails) (drop l.i l.heads) (drop l.i l.capacities) ≡ built 0 l.fn.state l.tails l.heads l.capacities
