use Rattle.std.proofs.Common.{ap, length, ◌∙◌}
use Rattle.std.proofs.lemmas.Slice.Zip.{AllZip-long}
use Rattle.dmf_vital.proofs.rest.solved_without.Goals as goal

pub with_flows-requires : goal.with_flows-requires
with_flows-requires c =
    ap length c.in_ok-flows.ensures.items ∙ AllZip-long _ c.args.state.now.network.arcs c.args.flows.now c.requires.greatest.flow.within
