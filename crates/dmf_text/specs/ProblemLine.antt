-- The lines that the reader of a problem text gets.
-- Private: only contracts inside the crate and proofs use this.
use Rattle.std.specs.Prelude.{ℕ, ◌≡◌, List, ◌∷◌, codes}
use Rattle.std.specs.Str.Lines.{lines}
use Rattle.dmf_text.specs.declared.arc_line.ProblemLine.{ProblemLine}
use Rattle.dmf_text.specs.declared.arc_line.ProblemLine.TheVariants.{Arc, Bytes}
use Rattle.dmf_text.specs.Fields.{fields}
use Rattle.dmf_text.specs.Numbers.{AreSpelled}

-- The fields of a line are `a` and three that spell these numbers.
pub record IsArcLine (line : List ℕ) (tail head cap : ℕ) : Type 0 where
  pub behind : List (List ℕ)
  pub fields_are : fields line ≡ codes "a" ∷ behind
  pub spelled : AreSpelled behind tail head cap

-- The first line of a text is an arc line of these numbers, and these bytes stand behind it.
pub record IsArcInFront (text : List ℕ) (tail head cap : ℕ) (behind : List ℕ) : Type 0 where
  pub line : List ℕ
  pub first : lines text ≡ line ∷ lines behind
  pub is_arc : IsArcLine line tail head cap

-- It stands for a line of these bytes.
abbrev pub IsLine : ProblemLine → List ℕ → Type 0
IsLine (Arc arc) line = IsArcLine line arc.tail arc.head arc.cap
IsLine (Bytes bytes) line = bytes.now ≡ line

-- The first of some numbered lines has this number, and it is this line; these lines are behind it.
pub record BeginsWithLine (before : List (ℕ × List ℕ)) (number : ℕ) (given : ProblemLine) (after : List (ℕ × List ℕ)) : Type 0 where
  pub line : List ℕ
  pub steps : before ≡ (number, line) ∷ after
  pub is : IsLine given line
