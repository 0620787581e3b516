use Rattle.std.proofs.Common.{ℕ, ◌≡◌, ◌<◌, true, false, length, get_or}
use Rattle.dmf_state.specs.Arc.{no_arc}
use Rattle.dmf_state.specs.Network.{Network}
use Rattle.dmf_vital.specs.Extended.{ArePlaced, IsExtended}
use Rattle.dmf_vital.specs.Loss.{IsGainOfArc}
use Rattle.dmf_vital.specs.Ranks.{AreRanks}
use Rattle.dmf_vital.specs.Shifted.{IsReady}
use Rattle.dmf_vital.proofs.gain.find_gains.Given as goal

abbrev pub invariant-loop-i : goal.invariant-loop-i
invariant-loop-i g l = record {
  ready : IsReady l.more l.rerouting;
  ranks : AreRanks l.more.network l.rerouting.flows.items l.ranks.items;
  one_each : length l.gains.items ≡ length l.arcs;
  marks : length l.found.items ≡ length l.arcs;
  gains : (n : Network) → IsExtended n l.more.network (length n.arcs) → ArePlaced n l.more.network l.arcs l.firsts (length l.arcs) → (j : ℕ)
      → get_or l.found.items j false ≡ true → IsGainOfArc n (get_or l.arcs j no_arc) (get_or l.gains.items j 0);
}

abbrev pub invariant-loop-k : goal.invariant-loop-k
invariant-loop-k g l = record {
  ready : IsReady l.more l.rerouting;
  ranks : AreRanks l.more.network l.rerouting.flows.items l.ranks.items;
  one_each : length l.gains.items ≡ length l.arcs;
  marks : length l.found.items ≡ length l.arcs;
  gains : (n : Network) → IsExtended n l.more.network (length n.arcs) → ArePlaced n l.more.network l.arcs l.firsts (length l.arcs) → (j : ℕ)
      → get_or l.found.items j false ≡ true → IsGainOfArc n (get_or l.arcs j no_arc) (get_or l.gains.items j 0);
  before : (n : Network) → IsExtended n l.more.network (length n.arcs) → ArePlaced n l.more.network l.arcs l.firsts (length l.arcs) → (j : ℕ) → j < l.k
      → IsGainOfArc n (get_or l.arcs j no_arc) (get_or l.gains.items j 0);
}
