-- Texts that are judged line by line: each line by what the lines before it say, and then the end.
-- Public: a public contract says no more than this.
use Rattle.std.specs.Prelude.{ℕ, List, [], ◌∷◌, ◌++◌, ◌+◌, Bool, true, false, Option, None, unwrap_or, Result, Ok, Err, length, slice_get}
use Rattle.std.specs.Option.{option_or}
use Rattle.std.specs.Result.{result_unwrap_or}
use Rattle.dmf_text.specs.declared.digits.NumberFault.{NumberFault}
use Rattle.dmf_text.specs.Number.{number_of}

-- ---- lines

-- A line is a list of fields. Its first field says its kind; the fields after that are counted from 0.
abbrev pub Line : Type 0
Line = List (List ℕ)

-- field i, empty if there is none
abbrev pub field : ℕ → List (List ℕ) → List ℕ
field i behind = unwrap_or (slice_get behind i) []

-- the number that field i spells, or 0 if it spells none
abbrev pub number_at : ℕ → List (List ℕ) → ℕ
number_at i behind = result_unwrap_or (number_of (field i behind)) 0

-- the value that the first line says that says one
abbrev pub first_fact : {X : Type 0} → (Line → Option X) → List Line → Option X
first_fact say [] = None
first_fact say (line ∷ more) = option_or (say line) (first_fact say more)

-- ---- judgements

infixl 10 ◌>>=◌
abbrev pub ◌>>=◌ : {A B E : Type 0} → Result A E → (A → Result B E) → Result B E
(Ok x) >>= next = next x
(Err e) >>= next = Err e

infixl 10 ◌>>◌
abbrev pub ◌>>◌ : {A B E : Type 0} → Result A E → Result B E → Result B E
(Ok x) >> next = next
(Err e) >> next = Err e

-- the fault, unless the test holds
abbrev pub expect : {Kind : Type 0} → Bool → Kind → Result (Unit {0}) Kind
expect true kind = Ok tt
expect false kind = Err kind

-- a number, or the fault of a field as the fault of a line
abbrev pub map_fault : {Kind : Type 0} → (NumberFault → Kind) → Result ℕ NumberFault → Result ℕ Kind
map_fault kind_of (Ok n) = Ok n
map_fault kind_of (Err fault) = Err (kind_of fault)

-- ---- what a text stands for

-- a judgement, whose fault gets the number of the line
abbrev pub at_line : {A Kind Fault : Type 0} → (ℕ → Kind → Fault) → ℕ → Result A Kind → Result A Fault
at_line fault number (Ok x) = Ok x
at_line fault number (Err kind) = Err (fault number kind)

-- Lines say something together. What the lines before it say judges a line, and what all lines say judges the end.
module _ {Facts Kind Fault A : Type 0} (facts_of : List Line → Facts) (judged : Facts → Line → Result (Unit {0}) Kind)
    (ended : Facts → Result A Kind) (fault : ℕ → Kind → Fault) where
  -- What a text stands for: `before` are its first lines, each good, and these are the others. It is the first fault of a line, or the
  -- fault of the end, which has the number of lines plus one, or else what the end gives.
  unfoldable pub outcome_after : List Line → List Line → Result A Fault
  outcome_after before [] = at_line fault (length before + 1) (ended (facts_of before))
  outcome_after before (line ∷ more) =
      at_line fault (length before + 1) (judged (facts_of before) line) >> outcome_after (before ++ line ∷ []) more
