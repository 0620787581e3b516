-- The lines of rows.
use Rattle.std.proofs.Common.{ℕ, Bool, true, ◌≡◌, List, [], ◌∷◌, ap, filter, get_or, map, refl}
use Rattle.dmf_text.specs.Written.{written}
use Rattle.dmf_text.proofs.WrittenLemmas.{kept-one, kept_text}
use Rattle.dmf_valuing.specs.PartRows.{fields_of, row_of}
use Rattle.dmf_valuing.specs.Rows.{row_fields, row_line, rows_text}
use Rattle.dmf_valuing.specs.declared.rows.Numbers.{Numbers}

-- The lines are those of all elements of the list.
abbrev pub each : Numbers → Bool
each row = true

all-rows : (rows : List Numbers) → map row_fields (map row_of rows) ≡ map fields_of (filter each rows)
all-rows [] = refl
all-rows (row ∷ others) = ap (λ rest. fields_of row ∷ rest) (all-rows others)

pub rows-kept : (rows : List Numbers) → rows_text (map row_of rows) ≡ kept_text each fields_of rows
rows-kept rows = ap written (all-rows rows)

-- the line of one
pub row-line : (rows : List Numbers) (k : ℕ) (d : Numbers) → kept_text each fields_of (get_or rows k d ∷ [])
    ≡ row_line (row_of (get_or rows k d))
row-line rows k d = kept-one each fields_of (get_or rows k d)
