-- The numbers that fields spell.
-- Public: a public contract says no more than this.
use Rattle.std.specs.Prelude.{ℕ, List, Bool, Option, Some, None, Result, Err, length, nat_lt, ok_or, ◌^◌, ◌&&◌, if◌then◌else◌}
use Rattle.std.specs.List.{list_all}
use Rattle.std.specs.Char.{is_ascii_digit}
use Rattle.std.specs.Str.Parse.{digits_value}
use Rattle.dmf_text.specs.declared.digits.NumberFault.{NumberFault}
use Rattle.dmf_text.specs.declared.digits.NumberFault.TheVariants.{NotANumber, TooLarge}

-- one digit or more, and nothing else
abbrev pub is_digits : List ℕ → Bool
is_digits field = nat_lt 0 (length field) && list_all is_ascii_digit field

-- the number, if it is below 2^64
unfoldable pub within : ℕ → Option ℕ
within n = if nat_lt n (2 ^ 64) then Some n else None

-- the number below 2^64 that a field spells in decimal digits
unfoldable pub number_of : List ℕ → Result ℕ NumberFault
number_of field = if is_digits field then ok_or (within (digits_value 10 field)) TooLarge else Err NotANumber
