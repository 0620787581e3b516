use Rattle.std.proofs.Common.{◌∷◌, [], refl}
use Rattle.dmf_text.proofs.WritingLemmas.{first-failed, first-put}
use Rattle.dmf_program.proofs.words.put_line.Goals as goal

pub returns-in_err-put_all : goal.returns-in_err-put_all
returns-in_err-put_all g c =
    first-failed _ _ _ _ _ _ (10 ∷ []) c.from_residual.ensures.1 refl (rw c.as_bytes.ensures.value at c.in_err-put_all.ensures)

pub returns : goal.returns
returns g c =
    first-put _ (g.W.Sink.written c.put_all.new.out) _ _ _ _ (10 ∷ []) refl (rw c.as_bytes.ensures.value at c.in_ok-put_all.ensures)
    c.put_all-2.ensures
