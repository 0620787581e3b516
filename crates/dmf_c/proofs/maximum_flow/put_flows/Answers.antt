use Rattle.std.proofs.Common.{◌≡◌, length, ap, sym, ◌∙◌, arith}
use Rattle.dmf_c.proofs.Fitting.{length-flows}
use Rattle.dmf_c.proofs.Maximum.{column}
use Rattle.dmf_c.proofs.maximum_flow.put_flows.Goals as goal

pub copy_from_slice-requires : goal.copy_from_slice-requires
copy_from_slice-requires c =
    let long : length c.flows.result.now ≡ length c.args.state.now.network.arcs = ap length c.flows.ensures.value ∙ length-flows c.args.state.now c.flows.ensures.state in
    column (length c.args.state.now.network.arcs) (length c.args.flows.now) c.requires (omega arith) ∙ sym long
