use Rattle.std.proofs.Common.{rules}
use Rattle.dmf_state.proofs.Equality.{same_state-Decides}
use Rattle.dmf_state.proofs.state.equality.StatePartialEq.eq.Goals as goal

pub returns-then-eq-clause-same : goal.returns-then-eq-clause-same
returns-then-eq-clause-same c = same_state-Decides c.args.self.now c.args.other.now c.eq-then-eq.result (search rules)

pub returns-else-eq-clause-same : goal.returns-else-eq-clause-same
returns-else-eq-clause-same c = same_state-Decides c.args.self.now c.args.other.now c.if-self-other-3.value (search rules)
