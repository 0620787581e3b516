use Rattle.std.proofs.Common.{length}
use Rattle.dmf_text.specs.Problem.{facts_of, judged, ended, problem_fault}
use Rattle.dmf_text.specs.Reading.{facts_in}
use Rattle.dmf_text.proofs.JudgingLemmas.{Walk}
use Rattle.dmf_text.proofs.problem.read_problem.Given as goal

abbrev pub invariant-loop-number : goal.invariant-loop-number
invariant-loop-number l = Walk facts_of judged ended problem_fault l.text (facts_in l.reading) l.last l.lines

abbrev pub decreases-loop-number : goal.decreases-loop-number
decreases-loop-number l = length l.lines
