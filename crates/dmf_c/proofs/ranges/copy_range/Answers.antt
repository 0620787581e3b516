use Rattle.std.proofs.Common.{rules, ◌≡◌, ℕ, ◌+◌, ◌-◌, ◌≤◌, length, ap, sym, subst, ◌∙◌}
use Rattle.dmf_c.proofs.Fitting.{length-flows}
use Rattle.dmf_c.proofs.ranges.copy_range.Goals as goal

pub copy_flows-requires-clause-to_last : goal.copy_flows-requires-clause-to_last
copy_flows-requires-clause-to_last c =
    let long : length c.flows.result.now ≡ length c.args.state.now.network.arcs = ap length c.flows.ensures.value ∙ length-flows c.args.state.now c.flows.ensures.state in
    subst (λ (m : ℕ). c.args.first - 1 + length c.args.flows.now ≤ m) (sym long) (search rules)
