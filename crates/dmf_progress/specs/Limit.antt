-- An upper bound of the value of a flow.
-- Private: only contracts inside the crate and proofs use this.
use Rattle.std.specs.Prelude.{ℕ, ◌==◌, not, pos, ◌≤ℤ◌, List}
use Rattle.dmf_state.specs.declared.arc.Arc.{Arc}
use Rattle.dmf_state.specs.Network.{Network}
use Rattle.dmf_state.specs.Flow.{IsFlow, flow_value}
use Rattle.dmf_state.specs.Cut.{cut_capacity}

-- the capacity of the arcs that leave node `v` for another one
abbrev pub leaving : List Arc → ℕ → ℕ
leaving arcs v = cut_capacity arcs (λ u. u == v)

-- the capacity of the arcs that enter node `v` from another one
abbrev pub entering : List Arc → ℕ → ℕ
entering arcs v = cut_capacity arcs (λ u. not (u == v))

-- No flow of the network has a larger value.
abbrev pub IsLimit : Network → ℕ → Type 0
IsLimit n most = (flows : List ℕ) → IsFlow n flows → flow_value n flows ≤ℤ pos most
