-- What a problem text says, line by line.
use Rattle.std.proofs.Common.{◌≡◌, List, [], ◌∷◌, ◌++◌, codes}
use Rattle.dmf_text.specs.Judging.{Line}
use Rattle.dmf_text.specs.Problem.{counts_in, terminal_in, arc_in, facts_of}
use Rattle.dmf_text.specs.Reading.{with_line}
use Rattle.dmf_text.proofs.JudgingLemmas.{first_fact-push, filter_map-push}

-- The facts of lines are those without the last one, with that added.
pub facts_of-push : (lines : List Line) (line : Line) → facts_of (lines ++ line ∷ []) ≡ with_line (facts_of lines) line
facts_of-push lines line = λ i. record {
  counts = first_fact-push counts_in lines line i;
  source = first_fact-push (terminal_in (codes "s")) lines line i;
  sink = first_fact-push (terminal_in (codes "t")) lines line i;
  arcs = filter_map-push arc_in lines line i;
}
