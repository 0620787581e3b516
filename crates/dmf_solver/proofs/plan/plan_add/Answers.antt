use Rattle.std.proofs.Common.{sym, rules}
use Rattle.dmf_state.proofs.IdleArc.{differences-push}
use Rattle.dmf_solver.proofs.plan.plan_add.Goals as goal

pub returns-clause-plan : goal.returns-clause-plan
returns-clause-plan c = record {
  kind = search rules;
  fits = search rules;
  becomes = search rules;
  moves = sym (differences-push 1 c.args.state.now.flows 0);
}
