use Rattle.dmf_streams.proofs.ReplyLemmas.{Writes-flushed}
use Rattle.dmf_streams.proofs.writing.put_line.Goals as goal

pub returns : goal.returns
returns g c = Writes-flushed _ (g.W.Sink.written c.write_line.new.out) _ _ _ c.in_ok-write_line.ensures c.flush.ensures
