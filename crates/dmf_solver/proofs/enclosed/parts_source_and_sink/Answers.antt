use Rattle.std.proofs.Common.{length, sym, ap, ◌∙◌, arith}
use Rattle.dmf_solver.specs.Enclosed.{has_mark}
use Rattle.dmf_solver.proofs.cuts.Enclosing.{none-out}
use Rattle.dmf_solver.proofs.enclosed.parts_source_and_sink.Goals as goal

pub returns : goal.returns
returns c = λ _.
    let s = c.args.state.now in
    let marks = c.args.marks.now in
    none-out (has_mark marks) s.network.arcs s.flows s.network.source s.network.sink
    (λ k h. c.loop-k.invariant k (omega (arith, h, ap length c.arcs-k-end.ensures.value, c.loop-k-test.false)))
    (ap (has_mark marks) (sym c.source.ensures.value) ∙ c.if-not-marks-source.false)
    (ap (has_mark marks) (sym c.sink.ensures.value) ∙ c.if-marks-sink.false)
