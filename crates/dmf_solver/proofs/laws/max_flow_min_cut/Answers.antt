use Rattle.dmf_solver.proofs.cuts.GreatestFlow.{some-greatest_flow, max_flow-min_cut}
use Rattle.dmf_solver.proofs.laws.max_flow_min_cut.Goals as goal

pub returns-clause-flow : goal.returns-clause-flow
returns-clause-flow c = some-greatest_flow

pub returns-clause-cut : goal.returns-clause-cut
returns-clause-cut c = max_flow-min_cut
