use Rattle.std.proofs.Common.{ℕ, ◌<◌, Bool, get_or}
use Rattle.dmf_state.specs.Arc.{no_arc}
use Rattle.dmf_vital.specs.Ranks.{StaysLow}
use Rattle.dmf_vital.proofs.ranks.are_ranks.Given as goal

-- None of the arcs so far leads to a node of a higher rank.
abbrev pub invariant-loop-k : goal.invariant-loop-k
invariant-loop-k l = (against : Bool) (i : ℕ) → i < l.k → StaysLow l.ranks against (get_or l.state.network.arcs i no_arc) (get_or l.flows i 0)
