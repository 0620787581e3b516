use Rattle.std.proofs.Common.{ℕ, List, ◌-◌}
use Rattle.dmf_path.specs.Touched.{IsTouched, Touches}
use Rattle.dmf_solver.specs.Pairs.{Along, IsCarryingSearch, flows_read}
use Rattle.dmf_solver.proofs.draining.DrainingSearch.{IsDraining}
use Rattle.dmf_solver.proofs.drain.drain_along.Given as goal

-- Draining has come so far, and the pairs that it has changed count as touched, with the pair of the drained arc.
abbrev pub invariant-loop-left : goal.invariant-loop-left
invariant-loop-left g l = record {
  draining : (unpaired : List ℕ) → IsCarryingSearch l.state unpaired l.fn.search
      → IsDraining l.state unpaired (flows_read Along unpaired l.fn.search.pairs) l.turn l.left l.search;
  own : IsTouched l.touched (l.turn.arc - 1);
  touches : Touches l.fn.touched l.touched l.fn.search.pairs l.search.pairs;
}

abbrev pub decreases-loop-left : goal.decreases-loop-left
decreases-loop-left g l = l.left
