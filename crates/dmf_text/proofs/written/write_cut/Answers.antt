use Rattle.dmf_text.proofs.WrittenLemmas.{cut_text-lines}
use Rattle.dmf_text.proofs.WritingLemmas.{first-failed, first-put}
use Rattle.dmf_text.proofs.written.write_cut.Goals as goal

pub returns-in_err-put_line : goal.returns-in_err-put_line
returns-in_err-put_line g c =
    record {
      written = first-failed _ _ _ _ _ _ _ c.from_residual.ensures.1
          (cut_text-lines c.args.side.now c.capacity.result c.capacity.ensures) c.in_err-put_line.ensures;
    }

pub returns : goal.returns
returns g c =
    let lines = cut_text-lines c.args.side.now c.capacity.result c.capacity.ensures in
    let nodes = rw c.ids.ensures.value at c.put_nodes.ensures in
    record { written = first-put _ (g.W.Sink.written c.put_line.new.out) _ _ _ _ _ lines c.in_ok-put_line.ensures nodes }
