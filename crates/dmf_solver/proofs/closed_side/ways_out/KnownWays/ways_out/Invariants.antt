use Rattle.dmf_solver.proofs.cuts.WaysOut.{AreEnds}
use Rattle.dmf_solver.proofs.closed_side.ways_out.KnownWays.ways_out.Given as goal

abbrev pub invariant-loop-k : goal.invariant-loop-k
invariant-loop-k l = record { ends : AreEnds l.search l.marks l.k-items l.tails.items l.heads.items l.k-index }
