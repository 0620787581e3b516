use Rattle.std.proofs.Common.{◌≡◌, ◌-◌, subst, pos}
use Rattle.dmf_state.specs.contracts.state.State.{the_view}
use Rattle.dmf_state.specs.Flow.{flow_value}
use Rattle.dmf_state.proofs.Balance.{value-from_source, entering-le-leaving}
use Rattle.dmf_state.proofs.state.State.value.Goals as goal

pub returns-clause-value : goal.returns-clause-value
returns-clause-value c =
    let s = the_view c.self.inside in
    let le = entering-le-leaving s c.self.inside.at_source c.self.invariant.state c.self.invariant.at_source in
    subst (λ s. pos (c.self.inside.at_source.leaving - c.self.inside.at_source.entering) ≡ flow_value s.network s.flows) c.self.view_is
    (value-from_source s.network s.flows c.self.inside.at_source c.self.invariant.at_source le)
