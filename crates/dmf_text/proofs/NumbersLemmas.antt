-- A line whose numbers have a fault.
use Rattle.std.proofs.Common.{◌≡◌, ℕ, Bool, true, false, Result, Ok, Err, refl}
use Rattle.dmf_text.specs.declared.digits.NumberFault.{NumberFault}
use Rattle.dmf_text.specs.declared.numbers.NumbersFault.{NumbersFault}
use Rattle.dmf_text.specs.declared.numbers.NumbersFault.TheVariants.{FieldCount, Number}
use Rattle.dmf_text.specs.Judging.{◌>>=◌, ◌>>◌, expect, map_fault}
use Rattle.dmf_text.specs.Numbers.{numbers_kind}

-- three numbers, each of which may have a fault
abbrev together : Bool → Result ℕ NumberFault → Result ℕ NumberFault → Result ℕ NumberFault → Result (ℕ × ℕ × ℕ) NumbersFault
together are_three x y z =
    expect are_three FieldCount >> (map_fault Number x >>= λ a. map_fault Number y >>= λ b. map_fault Number z >>= λ c. Ok (a, b, c))

-- the judgement of such a line, which goes on where there is no fault
abbrev line_judged : {Kind : Type 0} → Kind → (NumberFault → Kind) → Bool → Result ℕ NumberFault → Result ℕ NumberFault → Result ℕ NumberFault
    → (ℕ → ℕ → ℕ → Result (Unit {0}) Kind) → Result (Unit {0}) Kind
line_judged count_kind number_kind are_three x y z next =
    expect are_three count_kind >> (map_fault number_kind x >>= λ a. map_fault number_kind y >>= λ b. map_fault number_kind z >>= λ c. next a b c)

-- the fault of the numbers is the fault of the line
pub numbers-bad : {Kind : Type 0} → (count_kind : Kind) (number_kind : NumberFault → Kind) (are_three : Bool) (x y z : Result ℕ NumberFault)
    (next : ℕ → ℕ → ℕ → Result (Unit {0}) Kind) (fault : NumbersFault) → together are_three x y z ≡ Err fault
    → line_judged count_kind number_kind are_three x y z next ≡ Err (numbers_kind count_kind number_kind fault)
numbers-bad count_kind number_kind false x y z next fault is = let same : FieldCount ≡ fault = cc in rw (← same) refl
numbers-bad count_kind number_kind true (Err e) y z next fault is = let same : Number e ≡ fault = cc in rw (← same) refl
numbers-bad count_kind number_kind true (Ok a) (Err e) z next fault is = let same : Number e ≡ fault = cc in rw (← same) refl
numbers-bad count_kind number_kind true (Ok a) (Ok b) (Err e) next fault is = let same : Number e ≡ fault = cc in rw (← same) refl
numbers-bad count_kind number_kind true (Ok a) (Ok b) (Ok c) next fault is = absurd (let no : ⊥ = cc in no)
