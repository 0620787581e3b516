use Rattle.std.proofs.Common.{◌≡◌, ◌∙◌, None, arith, refl, take}
use Rattle.std.proofs.lemmas.List.{take_all}
use Rattle.std.proofs.lemmas.Result.{err_from_is_err_and}
use Rattle.std.proofs.KnownBytes.{Appends-nil}
use Rattle.dmf_text.proofs.WrittenLemmas.{all-nil, kept-failed, kept-put}
use Rattle.dmf_valuing.specs.PartRows.{fields_of}
use Rattle.dmf_valuing.proofs.PartRows.{each, row-line, rows-kept}
use Rattle.dmf_valuing.specs.declared.rows.Numbers.{Numbers}
use Rattle.dmf_valuing.proofs.rows.write_rows.Goals as goal

-- an element that no list has
abbrev none : Numbers
none = record { first = 0; second = 0; third = None }

pub loop-k-init : goal.loop-k-init
loop-k-init g c = record { held = rw (all-nil fields_of) (Appends-nil _); mark = refl }

pub returns-in_err-write_line : goal.returns-in_err-write_line
returns-in_err-write_line g c =
    let rows = c.args.rows.now in
    let k = c.loop-k.k in
    let failed = err_from_is_err_and c.from_residual.result c.from_residual.ensures.1 in
    rw (failed.1, rows-kept rows)
    (kept-failed each fields_of rows k none c.loop-k-test.true _ (row-line rows k none)
    (g.W.Sink.written c.args.out.now) (g.W.Sink.written c.loop-k.out) _ c.loop-k.invariant.held (rw c.row_line.ensures at c.in_err-write_line.ensures))

pub loop-k-preserved : goal.loop-k-preserved
loop-k-preserved g c =
    let rows = c.args.rows.now in
    let k = c.loop-k.k in
    record {
      held = kept-put each fields_of rows k none c.loop-k-test.true _ (row-line rows k none)
          (g.W.Sink.written c.args.out.now) (g.W.Sink.written c.loop-k.out) (g.W.Sink.written c.write_line.new.out) c.loop-k.invariant.held
          (rw c.row_line.ensures at c.in_ok-write_line.ensures.0);
      mark = c.in_ok-write_line.ensures.1 ∙ c.loop-k.invariant.mark;
    }

pub returns : goal.returns
returns g c =
    let rows = c.args.rows.now in
    let all : take c.loop-k.k rows ≡ rows = take_all c.loop-k.k rows (omega (arith, c.loop-k-test.false)) in
    rw (rows-kept rows) (rw all at c.loop-k.invariant.held, c.loop-k.invariant.mark)
