use Rattle.std.proofs.Common.{◌<◌, get_or, ap, ◌∙◌, arith, length}
use Rattle.std.proofs.lemmas.Bool.Decides.{nat_tests}
use Rattle.std.proofs.lemmas.List.{get_or_default}
use Rattle.std.proofs.lemmas.Slice.Zip.{AllZip-long}
use Rattle.dmf_state.specs.Arc.{no_arc}
use Rattle.dmf_solver.proofs.arc_flow.arc_at.Goals as goal

pub bounds-flows-k : goal.bounds-flows-k
bounds-flows-k c =
    let s = c.args.state.now in
    let long = AllZip-long _ s.network.arcs s.flows c.arcs.ensures.state.flow.within in
    let found = rw c.arcs.ensures.value at c.in_ok-arc.ensures.lookup in
    let within : c.args.k < length s.network.arcs = grind (arith, nat_tests, found.0) in
    rw c.flows.ensures.value (omega (arith, within, long))

pub returns : goal.returns
returns c =
    let s = c.args.state.now in
    let found = rw c.arcs.ensures.value at c.in_ok-arc.ensures.lookup in
    let within : c.args.k < length s.network.arcs = grind (arith, nat_tests, found.0) in
    record {
      at = record {
        within = within;
        arc_is = found.1 ∙ get_or_default s.network.arcs c.args.k _ no_arc within;
        flow_is = ap (λ flows. get_or flows c.args.k 0) c.flows.ensures.value;
      };
      state = c.flows.ensures.state;
    }
