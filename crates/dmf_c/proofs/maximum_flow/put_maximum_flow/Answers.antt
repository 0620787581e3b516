use Rattle.std.proofs.Common.{rules, ◌≡◌, true, length}
use Rattle.dmf_c.specs.Ranges.{is_column}
use Rattle.dmf_c.proofs.Maximum.{optimal-value, flows-wanted, side-wanted}
use Rattle.dmf_c.proofs.maximum_flow.put_maximum_flow.Goals as goal

pub returns-clause-value : goal.returns-clause-value
returns-clause-value c =
    λ ok. optimal-value c.args.state.now.network c.in-Ok.solved.state c.value.result c.in-Ok.ensures.network c.in-Ok.ensures.greatest c.value.ensures.value
    c.greatest_is_optimal.ensures c.value.ensures.state.network

pub returns-clause-filled : goal.returns-clause-filled
returns-clause-filled c =
    λ ok. flows-wanted c.args.state.now.network c.in-Ok.solved.state c.value.result c.in-Ok.ensures.network c.in-Ok.ensures.greatest c.value.ensures.value
    c.args.flows.now c.put_flows.new.flows c.put_flows.ensures

pub returns-clause-marked : goal.returns-clause-marked
returns-clause-marked c =
    let fits : is_column c.args.state.now.network.nodes (length c.args.side.now) ≡ true = search rules in
    λ ok. side-wanted c.args.state.now.network c.in-Ok.solved.side c.args.side.now c.put_side.new.marks fits c.in-Ok.ensures.side c.put_side.ensures
