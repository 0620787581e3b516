use Rattle.std.proofs.Common.{[], refl}
use Rattle.dmf_streams.proofs.ReplyLemmas.{Appends-kept}
use Rattle.dmf_streams.proofs.writing.flush.Goals as goal

pub returns-in_default : goal.returns-in_default
returns-in_default g c = ([], [], refl, Appends-kept _ _ c.flush.ensures.bytes, rw c.in_default.is at c.flush.ensures.mark)

pub returns : goal.returns
returns g c = (Appends-kept _ _ c.flush.ensures.bytes, rw c.in-Ok.is at c.flush.ensures.mark)
