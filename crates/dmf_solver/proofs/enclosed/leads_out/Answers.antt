use Rattle.std.proofs.Common.{rules}
use Rattle.dmf_solver.proofs.enclosed.leads_out.Goals as goal

pub returns-then-head : goal.returns-then-head
returns-then-head c = search rules
