use Rattle.std.proofs.Common.{◌≤◌}
use Rattle.dmf_solver.specs.Greatest.{IsGreatest}
use Rattle.dmf_vital.specs.Exits.{exit_flow}
use Rattle.dmf_vital.specs.Ranks.{AreRanks}
use Rattle.dmf_vital.proofs.growth.join.Given as goal

abbrev pub invariant-loop : goal.invariant-loop
invariant-loop l = record {
  less : exit_flow l.state.network l.exits l.flows ≤ exit_flow l.state.network l.exits l.fn.flows;
  greatest : IsGreatest l.state.network l.flows;
  ranks : AreRanks l.state.network l.flows l.exits.ranks.now;
}
