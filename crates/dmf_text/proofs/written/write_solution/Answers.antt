use Rattle.dmf_text.proofs.WrittenLemmas.{solution_text-lines}
use Rattle.dmf_text.proofs.WritingLemmas.{first-failed, first-put}
use Rattle.dmf_text.proofs.written.write_solution.Goals as goal

pub returns-in_err-put_line : goal.returns-in_err-put_line
returns-in_err-put_line g c =
    record {
      written = first-failed _ _ _ _ _ _ _ c.from_residual.ensures.1
          (solution_text-lines c.args.state.now c.value.result c.value.ensures.value) c.in_err-put_line.ensures;
    }

pub returns : goal.returns
returns g c =
    let lines = solution_text-lines c.args.state.now c.value.result c.value.ensures.value in
    record { written = first-put _ (g.W.Sink.written c.put_line.new.out) _ _ _ _ _ lines c.in_ok-put_line.ensures c.put_flow_lines.ensures }
