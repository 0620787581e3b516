-- Numbers that the fields of a line spell.
-- Private: only contracts inside the crate and proofs use this.
use Rattle.std.specs.Prelude.{ℕ, ◌≡◌, ◌==◌, ◌<◌, ◌≤◌, ◌^◌, List, [], ◌∷◌, ◌++◌, length, take, true, Result, Ok}
use Rattle.std.specs.List.{position_or_len, list_all}
use Rattle.std.specs.Char.{is_ascii_digit}
use Rattle.std.specs.Str.Parse.{digits_value}
use Rattle.dmf_text.specs.declared.digits.NumberFault.{NumberFault}
use Rattle.dmf_text.specs.declared.numbers.NumbersFault.{NumbersFault}
use Rattle.dmf_text.specs.declared.numbers.NumbersFault.TheVariants.{FieldCount, Number}
use Rattle.dmf_text.specs.Fields.{fields, is_blank}
use Rattle.dmf_text.specs.Number.{number_of}
use Rattle.dmf_text.specs.Judging.{field, ◌>>=◌, ◌>>◌, expect, map_fault}

-- the numbers that three fields spell, or why they spell none
abbrev pub numbers_in : List (List ℕ) → Result (ℕ × ℕ × ℕ) NumbersFault
numbers_in behind = do
  expect (length behind == 3) FieldCount
  first ← map_fault Number (number_of (field 0 behind))
  second ← map_fault Number (number_of (field 1 behind))
  third ← map_fault Number (number_of (field 2 behind))
  Ok (first, second, third)

-- why they spell none, as the fault of a line: the fault of the number of fields, or of one field
abbrev pub numbers_kind : {Kind : Type 0} → Kind → (NumberFault → Kind) → NumbersFault → Kind
numbers_kind count_kind number_kind FieldCount = count_kind
numbers_kind count_kind number_kind (Number fault) = number_kind fault

-- There are three fields, and they spell these numbers.
pub record AreSpelled (behind : List (List ℕ)) (a b c : ℕ) : Type 0 where
  pub first : List ℕ
  pub second : List ℕ
  pub third : List ℕ
  pub are : behind ≡ first ∷ second ∷ third ∷ []
  pub first_is : number_of first ≡ Ok a
  pub second_is : number_of second ≡ Ok b
  pub third_is : number_of third ≡ Ok c

-- The first field of a line spells this number, and the other fields are those of the bytes after it.
pub record IsAhead (line : List ℕ) (n : ℕ) (behind : List ℕ) : Type 0 where
  pub first : List ℕ
  pub splits : fields line ≡ first ∷ fields behind
  pub spells : number_of first ≡ Ok n

-- So many bytes in front are digits, and this is their value, which is below 2^64.
pub record AreDigitsInFront (bytes : List ℕ) (value count : ℕ) : Type 0 where
  pub within : count ≤ length bytes
  pub digits : list_all is_ascii_digit (take count bytes) ≡ true
  pub is : value ≡ digits_value 10 (take count bytes)
  pub small : value < 2 ^ 64

-- Digits that spell this number stand before such a byte, and these bytes stand behind it.
pub record IsNumberBefore (end : ℕ) (bytes : List ℕ) (n : ℕ) (behind : List ℕ) : Type 0 where
  pub digits : List ℕ
  pub parts : bytes ≡ digits ++ end ∷ behind
  pub some : 0 < length digits
  pub are_digits : list_all is_ascii_digit digits ≡ true
  pub spells : number_of digits ≡ Ok n

-- So many bytes stand before the first blank, and they spell this number.
pub record IsNumberInFront (bytes : List ℕ) (n count : ℕ) : Type 0 where
  pub some : 0 < count
  pub within : count ≤ length bytes
  pub ends : count ≡ position_or_len is_blank bytes
  pub spells : number_of (take count bytes) ≡ Ok n
