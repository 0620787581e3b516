-- The fields of lines to write.
-- Public: a public contract says no more than this.
use Rattle.std.specs.Prelude.{ℕ, ◌+◌, List, decimal, length, sum_by}
use Rattle.dmf_text.specs.declared.line_buffer.LineField.{LineField}
use Rattle.dmf_text.specs.declared.line_buffer.LineField.TheVariants.{Text, Number}

-- the bytes of a field
abbrev pub field_bytes : LineField → List ℕ
field_bytes (Text text) = text.now
field_bytes (Number n) = decimal n

-- the most bytes that it can have: a number below 2^64 has up to 20 digits
abbrev pub most_bytes : LineField → ℕ
most_bytes (Text text) = length text.now
most_bytes (Number n) = 20

-- the most bytes of a line: each field has one more byte after it, a space or the line feed
abbrev pub most_line_bytes : List LineField → ℕ
most_line_bytes fields = sum_by (λ field. most_bytes field + 1) fields
