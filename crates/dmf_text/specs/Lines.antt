-- The lines of a text are std's `lines`: the pieces between line feeds. An empty last piece is no line, and a carriage return directly
-- before a line feed does not belong to the line.
-- Public: a public contract says no more than this.
use Rattle.std.specs.Prelude.{ℕ, List}
use Rattle.std.specs.List.{enumerate_from}
use Rattle.std.specs.Str.Lines.{lines}

-- the lines of a text, each with its number, from 1
abbrev pub numbered_lines : List ℕ → List (ℕ × List ℕ)
numbered_lines text = enumerate_from 1 (lines text)
