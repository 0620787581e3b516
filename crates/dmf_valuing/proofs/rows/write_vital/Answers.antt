use Rattle.std.proofs.Common.{map, refl}
use Rattle.dmf_text.proofs.WritingLemmas.{first-failed, first-put}
use Rattle.dmf_valuing.specs.PartRows.{row_of}
use Rattle.dmf_valuing.specs.Rows.{rows_text}
use Rattle.dmf_valuing.proofs.rows.write_vital.Goals as goal

pub returns-in_err-write_line : goal.returns-in_err-write_line
returns-in_err-write_line g c =
    first-failed _ _ _ _ _ _ (rows_text (map row_of c.args.rows.now)) c.from_residual.ensures.1 refl
    (rw c.value_line.ensures at c.in_err-write_line.ensures)

pub returns : goal.returns
returns g c =
    first-put _ (g.W.Sink.written c.write_line.new.out) _ _ _ _
    (rows_text (map row_of c.args.rows.now)) refl
    (rw c.value_line.ensures at c.in_ok-write_line.ensures) c.write_rows.ensures
