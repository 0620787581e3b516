use Rattle.dmf_text.specs.Solution.{Facts, facts_of, judged, ended, solution_fault}
use Rattle.dmf_text.specs.SolutionReading.{Keeps}
use Rattle.dmf_text.proofs.JudgingLemmas.{Walk}
use Rattle.dmf_text.proofs.solution.read_solution.Given as goal

-- the reader has the facts of the lines that it took
abbrev pub invariant-loop-number : goal.invariant-loop-number
invariant-loop-number l =
    (facts : Facts) × Keeps l.state.network.arcs facts l.reading
    × Walk facts_of (judged l.state.network.arcs) (ended l.state) solution_fault l.text facts l.last l.number-iterator
