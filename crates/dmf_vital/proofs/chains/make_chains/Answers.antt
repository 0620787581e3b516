use Rattle.std.proofs.Common.{ap, ◌∙◌, get_or, arith, ◌<◌, length}
use Rattle.dmf_state.specs.Arc.{no_arc}
use Rattle.dmf_vital.specs.Hop.{from_of}
use Rattle.dmf_vital.proofs.Chained.{chains-next}
use Rattle.dmf_vital.proofs.chains.make_chains.Goals as goal

pub loop-k-preserved : goal.loop-k-preserved
loop-k-preserved c =
    let network = c.args.state.now.network in
    let arcs = c.arcs-arcs.ensures.value in
    let within : c.loop-k.k < length network.arcs = omega (arith, ap length arcs, c.loop-k-test.true) in
    chains-next c.args.against network.nodes network.arcs c.loop-k.k c.from_of.result c.index.result.now c.loop-k.last.items c.loop-k.before.items within
    c.arcs-arcs.ensures.state.network.arcs
    (c.from_of.ensures ∙ ap (λ xs. from_of c.args.against (get_or xs c.loop-k.k no_arc)) arcs)
    c.index.ensures c.loop-k.invariant
