use Rattle.std.proofs.Common.{refl, ◌∙◌}
use Rattle.std.proofs.lemmas.Result.{err_from_is_err_and}
use Rattle.std.proofs.KnownBytes.{Appends-nil}
use Rattle.dmf_state.specs.Arc.{open_arc}
use Rattle.dmf_text.specs.Written.{arc_fields}
use Rattle.dmf_text.proofs.WrittenLemmas.{all-nil, kept-one, kept-put, kept-failed, is_open}
use Rattle.dmf_text.proofs.written.put_arcs.Goals as goal

pub loop-arc-init : goal.loop-arc-init
loop-arc-init g c = record { held = rw (all-nil arc_fields) (Appends-nil _); mark = refl }

pub returns-in_err-put_arc : goal.returns-in_err-put_arc
returns-in_err-put_arc g c =
    let failed = err_from_is_err_and c.from_residual.result c.from_residual.ensures.1 in
    rw failed.1
    (kept-failed is_open arc_fields c.args.arcs.now c.loop-arc.arc-index (open_arc 0 0 0) c.loop-arc-test.true _ (kept-one is_open arc_fields _)
    (g.W.Sink.written c.args.out.now) (g.W.Sink.written c.loop-arc.out) _ c.loop-arc.invariant.held c.in_err-put_arc.ensures)

pub loop-arc-preserved : goal.loop-arc-preserved
loop-arc-preserved g c = record {
  held = kept-put is_open arc_fields c.args.arcs.now c.loop-arc.arc-index (open_arc 0 0 0) c.loop-arc-test.true _ (kept-one is_open arc_fields _)
      (g.W.Sink.written c.args.out.now) (g.W.Sink.written c.loop-arc.out) (g.W.Sink.written c.put_arc.new.out) c.loop-arc.invariant.held
      c.in_ok-put_arc.ensures.0;
  mark = c.in_ok-put_arc.ensures.1 ∙ c.loop-arc.invariant.mark;
}
