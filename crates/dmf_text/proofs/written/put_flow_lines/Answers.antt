use Rattle.std.proofs.Common.{◌≡◌, length, take, refl, ap, ◌∙◌, arith, sym}
use Rattle.std.proofs.lemmas.Result.{err_from_is_err_and}
use Rattle.std.proofs.lemmas.List.{take_all}
use Rattle.std.proofs.lemmas.Slice.Zip.{AllZip-long}
use Rattle.std.proofs.KnownBytes.{Appends-nil}
use Rattle.std.specs.List.{zip}
use Rattle.dmf_state.specs.Arc.{open_arc}
use Rattle.dmf_text.specs.Written.{flow_fields}
use Rattle.dmf_text.proofs.WrittenLemmas.{all-nil, kept-put, kept-failed, is_open_flow, flow-line, zip-long}
use Rattle.dmf_text.proofs.written.put_flow_lines.Given.{Over}
use Rattle.dmf_text.proofs.written.put_flow_lines.Goals as goal
use Rattle.dmf_text.proofs.written.put_flow_lines.Goals.{After-arcs-arcs}

-- there is one flow for each arc
one_each : (g : Over) (c : After-arcs-arcs g) → length c.args.state.now.flows ≡ length c.arcs-arcs.result.now
one_each g c =
    let s = c.args.state.now in
    AllZip-long _ s.network.arcs s.flows c.arcs-arcs.ensures.state.flow.within ∙ ap length (sym c.arcs-arcs.ensures.value)

pub loop-i-init : goal.loop-i-init
loop-i-init g c = record { held = rw (all-nil flow_fields) (Appends-nil _); mark = refl }

pub returns-in_err-put_arc : goal.returns-in_err-put_arc
returns-in_err-put_arc g c =
    let arcs = c.arcs-arcs.result.now in
    let flows = c.args.state.now.flows in
    let each = one_each g (goal.at.returns-in_err-put_arc g c).After-arcs-arcs in
    let failed = err_from_is_err_and c.from_residual.result c.from_residual.ensures.1 in
    rw (failed.1, sym c.arcs-arcs.ensures.value)
    (kept-failed is_open_flow flow_fields (zip arcs flows) c.loop-i.i (open_arc 0 0 0, 0) (omega (arith, zip-long arcs flows each, c.loop-i-test.true))
    _ (flow-line arcs flows c.loop-i.i c.flow.result (open_arc 0 0 0) each c.loop-i-test.true c.flow.ensures)
    (g.W.Sink.written c.args.out.now) (g.W.Sink.written c.loop-i.out) _ c.loop-i.invariant.held c.in_err-put_arc.ensures)

pub loop-i-preserved : goal.loop-i-preserved
loop-i-preserved g c =
    let arcs = c.arcs-arcs.result.now in
    let flows = c.args.state.now.flows in
    let each = one_each g (goal.at.loop-i-preserved g c).After-arcs-arcs in
    record {
      held = kept-put is_open_flow flow_fields (zip arcs flows) c.loop-i.i (open_arc 0 0 0, 0) (omega (arith, zip-long arcs flows each, c.loop-i-test.true))
          _ (flow-line arcs flows c.loop-i.i c.flow.result (open_arc 0 0 0) each c.loop-i-test.true c.flow.ensures)
          (g.W.Sink.written c.args.out.now) (g.W.Sink.written c.loop-i.out) (g.W.Sink.written c.put_arc.new.out) c.loop-i.invariant.held
          c.in_ok-put_arc.ensures.0;
      mark = c.in_ok-put_arc.ensures.1 ∙ c.loop-i.invariant.mark;
    }

pub returns : goal.returns
returns g c =
    let arcs = c.arcs-arcs.result.now in
    let pairs = zip arcs c.args.state.now.flows in
    let long = zip-long arcs c.args.state.now.flows (one_each g (goal.at.returns g c).After-arcs-arcs) in
    let all : take c.loop-i.i pairs ≡ pairs = take_all c.loop-i.i pairs (omega (arith, long, c.loop-i-test.false)) in
    rw (sym c.arcs-arcs.ensures.value) (rw all at c.loop-i.invariant.held, c.loop-i.invariant.mark)
