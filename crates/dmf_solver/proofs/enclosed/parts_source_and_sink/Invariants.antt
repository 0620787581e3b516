use Rattle.std.proofs.Common.{ℕ, ◌<◌, get_or}
use Rattle.dmf_state.specs.Arc.{no_arc}
use Rattle.dmf_solver.specs.Enclosed.{has_mark, StaysIn}
use Rattle.dmf_solver.proofs.enclosed.parts_source_and_sink.Given as goal

abbrev pub invariant-loop-k : goal.invariant-loop-k
invariant-loop-k l = (j : ℕ) → j < l.k → StaysIn (has_mark l.marks) (get_or l.state.network.arcs j no_arc) (get_or l.state.flows j 0)
