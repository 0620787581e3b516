-- Sets of nodes that no residual step leaves.
-- Private: only contracts inside the crate and proofs use this.
use Rattle.std.specs.Prelude.{ℕ, ◌≡◌, ◌<◌, Bool, true, false, List, slice_index_or}
use Rattle.dmf_state.specs.declared.arc.Arc.{Arc}

-- whether the marks say that the set has a node
abbrev pub has_mark : List Bool → ℕ → Bool
has_mark marks v = slice_index_or marks v false

-- No residual step of an arc with this flow leads out of the set.
abbrev pub StaysIn : (ℕ → Bool) → Arc → ℕ → Type 0
StaysIn has arc flow = (flow < arc.cap → has arc.tail ≡ true → has arc.head ≡ true) × (0 < flow → has arc.head ≡ true → has arc.tail ≡ true)
