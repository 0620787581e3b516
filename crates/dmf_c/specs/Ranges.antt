-- A range of arcs, and the arrays of C's that get what there is of it.
-- Public: a public contract says no more than this.
use Rattle.std.specs.Prelude.{ℕ, ◌≡◌, ◌+◌, ◌-◌, ◌<◌, ◌==◌, Bool, ◌&&◌, ◌||◌, List, length, slice_index, nat_le, if◌then◌else◌}
use Rattle.std.specs.List.{list_all}
use Rattle.dmf_state.specs.Network.{Network}
use Rattle.dmf_c.specs.Status.{DMF_OK, DMF_NO_SUCH_ARC, DMF_BAD_LENGTH}

-- An array that keeps its length, and gets `number k` at each index `k`.
pub record HasNumbers (number : ℕ → ℕ) (before after : List ℕ) : Type 0 where
  pub size : length after ≡ length before
  pub each : (k : ℕ) → k < length after → slice_index after k ≡ number k

-- whether arcs `first` .. `first + count - 1` are there
abbrev pub has_range : Network → ℕ → ℕ → Bool
has_range n first count = nat_le 1 first && nat_le (first - 1 + count) (length n.arcs)

-- whether an array of this length has a place for each of `count` arcs, or is not wanted
abbrev pub is_column : ℕ → ℕ → Bool
is_column count given = given == 0 || given == count

-- The answer about this range and arrays of these lengths: that a length is wrong, that the range is not there, or that it is written.
abbrev pub range_code : Network → ℕ → ℕ → List ℕ → ℕ
range_code n first count lengths =
    if list_all (is_column count) lengths then (if has_range n first count then DMF_OK else DMF_NO_SUCH_ARC)
    else DMF_BAD_LENGTH

-- the mark of a closed arc, or of an open one
abbrev pub closed_mark : Bool → ℕ
closed_mark closed = if closed then 1 else 0
