use Rattle.std.proofs.Common.{refl}
use Rattle.dmf_program.proofs.words.follow.Goals as goal

pub returns-in-Err-Usage : goal.returns-in-Err-Usage
returns-in-Err-Usage g c =
    rw (c.in-Err-Usage.is, c.in-Err-Usage.field-0-is) (refl, (c.put_all.result, rw c.as_bytes.ensures.value at c.put_all.ensures), refl)
