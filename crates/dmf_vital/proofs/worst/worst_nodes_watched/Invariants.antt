use Rattle.dmf_vital.specs.Entering.{AreWorstUpTo}
use Rattle.dmf_vital.specs.Ranks.{AreRanks}
use Rattle.dmf_vital.specs.Shifted.{IsReady}
use Rattle.dmf_vital.specs.Worst.{IsNodeLoss}
use Rattle.dmf_vital.proofs.worst.worst_nodes_watched.Given as goal

abbrev pub invariant-loop-k : goal.invariant-loop-k
invariant-loop-k g l = record {
  ready : IsReady l.state l.rerouting;
  ranks : AreRanks l.state.network l.rerouting.flows.items l.ranks.items;
  worst : AreWorstUpTo (IsNodeLoss l.state.network) l.k 0 l.limits l.worst.items;
}
