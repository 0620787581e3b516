use Rattle.std.proofs.Common.{refl}
use Rattle.dmf_text.proofs.writer.StdSink.new.Goals as goal

pub returns-clause-mark : goal.returns-clause-mark
returns-clause-mark g c = refl
