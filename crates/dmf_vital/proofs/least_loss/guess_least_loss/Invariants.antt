use Rattle.dmf_vital.specs.Ranks.{AreRanks}
use Rattle.dmf_vital.specs.Shifted.{IsReady}
use Rattle.dmf_vital.proofs.least_loss.guess_least_loss.Given as goal

abbrev pub invariant-loop-floor : goal.invariant-loop-floor
invariant-loop-floor g l = record {
  ready : IsReady l.state l.rerouting;
  ranks : AreRanks l.state.network l.rerouting.flows.items l.ranks;
}

abbrev pub decreases-loop-floor : goal.decreases-loop-floor
decreases-loop-floor g l = l.floor
