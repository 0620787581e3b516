-- The fields of a line.
-- Public: a public contract says no more than this.
use Rattle.std.specs.Prelude.{ℕ, List, Bool, length, filter, nat_lt, ◌==◌, ◌||◌}
use Rattle.std.specs.List.{slice_split}

-- a space or a tab
abbrev pub is_blank : ℕ → Bool
is_blank b = b == 32 || b == 9

-- The longest runs of bytes that are no blank: the pieces between blanks that have a byte.
unfoldable pub fields : List ℕ → List (List ℕ)
fields line = filter (λ piece. nat_lt 0 (length piece)) (slice_split is_blank line)
