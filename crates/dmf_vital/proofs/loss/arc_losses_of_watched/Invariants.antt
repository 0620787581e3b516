use Rattle.std.proofs.Common.{ℕ, ◌≡◌, ◌<◌, length, get_or}
use Rattle.dmf_vital.specs.Loss.{IsLossOfArc}
use Rattle.dmf_vital.specs.Ranks.{AreRanks}
use Rattle.dmf_vital.specs.Shifted.{IsReady}
use Rattle.dmf_vital.proofs.loss.arc_losses_of_watched.Given as goal

abbrev pub invariant-loop-k : goal.invariant-loop-k
invariant-loop-k g l = record {
  ready : IsReady l.state l.rerouting;
  ranks : AreRanks l.state.network l.rerouting.flows.items l.ranks.items;
  one_each : length l.losses.items ≡ length l.arcs;
  losses : (i : ℕ) → i < l.k → IsLossOfArc l.state.network (get_or l.arcs i 0) (get_or l.losses.items i 0);
}
