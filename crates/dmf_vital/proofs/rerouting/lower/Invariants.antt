use Rattle.std.proofs.Common.{◌≡◌}
use Rattle.dmf_vital.specs.Exits.{exit_flow}
use Rattle.dmf_vital.specs.Ranks.{AreRanks}
use Rattle.dmf_vital.specs.Shifted.{IsReady}
use Rattle.dmf_vital.proofs.rerouting.lower.Given as goal

abbrev pub invariant-loop-left : goal.invariant-loop-left
invariant-loop-left l = record {
  ready : IsReady l.state l.rerouting;
  ranks : AreRanks l.state.network l.rerouting.flows.items l.exits.ranks.now;
  left : l.left ≡ exit_flow l.state.network l.exits l.rerouting.flows.items;
}

abbrev pub decreases-loop-left : goal.decreases-loop-left
decreases-loop-left l = l.left
