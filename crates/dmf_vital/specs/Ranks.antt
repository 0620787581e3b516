-- Ranks: numbers of the nodes, such that no residual step leads to a node of a higher rank.
-- Private: only contracts inside the crate and proofs use this.
use Rattle.std.specs.Prelude.{ℕ, ◌≡◌, ◌-◌, ◌<◌, ◌≤◌, ◌==◌, not, Bool, true, List, slice_index_or}
use Rattle.dmf_state.specs.declared.arc.Arc.{Arc}
use Rattle.dmf_state.specs.Flow.{flow_on}
use Rattle.dmf_state.specs.Network.{Network, arc_number, has_arc}
use Rattle.dmf_vital.specs.Hop.{from_of, to_of, room_of}

-- the rank of node `v`; 0 past the last
abbrev pub rank_of : List ℕ → ℕ → ℕ
rank_of ranks v = slice_index_or ranks (v - 1) 0

-- whether an arc leads between nodes of different ranks
abbrev pub is_across : List ℕ → Arc → Bool
is_across ranks arc = not (rank_of ranks arc.tail == rank_of ranks arc.head)

-- If a step over an arc with this flow has room, it leads to a node of no higher rank.
abbrev pub StaysLow : List ℕ → Bool → Arc → ℕ → Type 0
StaysLow ranks against arc flow = 0 < room_of against arc flow → rank_of ranks (to_of against arc) ≤ rank_of ranks (from_of against arc)

-- No residual step leads to a node of a higher rank.
pub record AreRanks (n : Network) (flows ranks : List ℕ) : Type 0 where
  pub none_rises : (against : Bool) (i : ℕ) → has_arc n i ≡ true → StaysLow ranks against (arc_number n i) (flow_on flows i)
