-- Numbers read digit by digit, and where they exceed 64 bits.
use Rattle.std.proofs.Common.{◌≡◌, ℕ, ◌+◌, ◌*◌, ◌^◌, ◌<◌, ◌≤◌, Option, Some, None, List, [], ◌∷◌, length, take, take_all, get_or}
use Rattle.std.proofs.Common.{◌-◌, Bool, true, false, Err, ok_or, arith, sym, ap, ◌∙◌, ⊎_elim, refl, Ok, length-take-le, get_or-take}
use Rattle.std.proofs.lemmas.Bool.{cond-true, cond-false, lt-ltb, le-ltb, cases_lt, and_right, and_from, and_parts, leb-true, ne_eqb, both_ways}
use Rattle.std.proofs.lemmas.Bool.{true_from_ne_false}
use Rattle.std.proofs.lemmas.List.Folds.{list_all_at, list_all_more}
use Rattle.std.proofs.lemmas.Int.Digits.{digits_value_more}
use Rattle.std.proofs.lemmas.Str.{digit_value_digit}
use Rattle.std.specs.List.{list_all}
use Rattle.std.specs.Char.{is_ascii_digit}
use Rattle.std.specs.Int.{IsInRange}
use Rattle.std.specs.Str.Parse.{digits_value}
use Rattle.dmf_text.specs.declared.digits.NumberFault.TheVariants.{NotANumber, TooLarge}
use Rattle.std.specs.Option.{SomeIff}
use Rattle.dmf_text.specs.Fields.{is_blank}
use Rattle.dmf_text.specs.Number.{within, number_of}
use Rattle.dmf_text.specs.Numbers.{AreDigitsInFront}

-- A number below 2^64 is within 64 bits,
pub within-below : (n : ℕ) → n < 2 ^ 64 → within n ≡ Some n
unfolding within
within-below n below = cond-true _ _ _ (lt-ltb n (2 ^ 64) below)

-- and one from there on is not.
pub within-past : (n : ℕ) → 2 ^ 64 ≤ n → within n ≡ None
unfolding within
within-past n past = cond-false _ _ _ (le-ltb n (2 ^ 64) past)

-- So one that is not within them is past them,
pub past-within : (n : ℕ) → None ≡ within n → 2 ^ 64 ≤ n
past-within n e = ⊎_elim (λ below. let is = within-below n below in cc) (λ past. past) (cases_lt n (2 ^ 64))

-- and one that is keeps its value.
pub value-within : (n value : ℕ) → Some value ≡ within n → n ≡ value
value-within n value e = ⊎_elim (λ below. let is = within-below n below in cc) (λ past. let is = within-past n past in cc) (cases_lt n (2 ^ 64))

-- the checked value of ten times the number plus a digit
pub within-sum : (n value digit : ℕ) (sum : Option ℕ) → Some value ≡ within n → SomeIff sum (value * 10 + digit < 2 ^ 64) (value * 10 + digit)
    → sum ≡ within (n * 10 + digit)
within-sum n value digit None e past =
    let same = value-within n value e in
    let at_least : 2 ^ 64 ≤ n * 10 + digit = ⊎_elim (λ below. absurd (past (omega arith))) (λ h. h) (cases_lt (n * 10 + digit) (2 ^ 64)) in
    sym (within-past _ at_least)
within-sum n value digit (Some sum) e fits =
    let same = value-within n value e in
    let below : n * 10 + digit < 2 ^ 64 = omega (arith, fits.0) in
    let is : n * 10 + digit ≡ sum = omega (arith, fits.1) in
    ap (λ x. Some x) (sym is) ∙ sym (within-below _ below)

-- An empty field is no number,
pub number_of-empty : (field : List ℕ) → length field ≡ 0 → number_of field ≡ Err NotANumber
unfolding number_of
number_of-empty [] e = refl
number_of-empty (b ∷ bs) e = absurd (omega arith)

-- nor is one with a byte that is no digit.
pub number_of-other : (field : List ℕ) (i : ℕ) → i < length field → false ≡ is_ascii_digit (get_or field i 0) → Err NotANumber ≡ number_of field
unfolding number_of
number_of-other field i below other = sym (cond-false _ _ _ (and_right _ _ (list_all_at is_ascii_digit field i 0 below (sym other))))

-- what holds of all bytes holds of each
pub all-at : (p : ℕ → Bool) (text : List ℕ) (k : ℕ) (d : ℕ) → list_all p text ≡ true → k < length text → p (get_or text k d) ≡ true
all-at p text k d all below = true_from_ne_false _ (λ no. both_ways _ (list_all_at p text k d below no) all)

-- Digits are a number, unless it is too large.
pub number_of-digits : (field : List ℕ) → 0 < length field → list_all is_ascii_digit field ≡ true
    → number_of field ≡ ok_or (within (digits_value 10 field)) TooLarge
unfolding number_of
number_of-digits field some all = cond-true _ _ _ (and_from _ _ (lt-ltb 0 _ some) all)

-- the first digits of a field, and one more
pub record MoreDigits (field : List ℕ) (i : ℕ) : Type 0 where
  pub digits : list_all is_ascii_digit (take i field) ≡ true → list_all is_ascii_digit (take (i + 1) field) ≡ true
  pub value : digits_value 10 (take i field) * 10 + (get_or field i 0 - 48) ≡ digits_value 10 (take (i + 1) field)

-- They are what the first ones are, with one more at the end.
pub more-digits : (field : List ℕ) (i : ℕ) → i < length field → true ≡ is_ascii_digit (get_or field i 0) → MoreDigits field i
more-digits field i below digit =
    let parts = and_parts _ _ (sym digit) in
    let range : IsInRange 48 57 (get_or field i 0) = (leb-true _ _ parts.0, leb-true _ _ parts.1) in
    let value = digit_value_digit (get_or field i 0) range in
    let more = digits_value_more 10 field i below in
    record {
      digits = λ before. list_all_more is_ascii_digit field i 0 below ∙ and_from _ _ before (sym digit);
      value = omega arith;
    }

-- all the digits
pub number_of-all : (field : List ℕ) (i : ℕ) (value : Option ℕ) → 0 < length field → length field ≤ i → list_all is_ascii_digit (take i field) ≡ true
    → value ≡ within (digits_value 10 (take i field)) → ok_or value TooLarge ≡ number_of field
number_of-all field i value some end all is =
    let whole = take_all i field end in
    ap (λ v. ok_or v TooLarge) (is ∙ ap (λ ds. within (digits_value 10 ds)) whole) ∙ sym
    (number_of-digits field some (sym (ap (λ ds. list_all is_ascii_digit ds) whole) ∙ all))

-- Digits whose value fits are the number.
pub number_of-short : (field : List ℕ) (i value : ℕ) → 0 < length field → length field ≤ i → list_all is_ascii_digit (take i field) ≡ true
    → value ≡ digits_value 10 (take i field) → value < 2 ^ 64 → Ok value ≡ number_of field
number_of-short field i value some end all is small = number_of-all field i (Some value) some end all (sym (within-below value small) ∙ ap within is)

-- Digits in front of some bytes spell their value.
pub digits-spell : (bytes : List ℕ) (value count : ℕ) → AreDigitsInFront bytes value count → 0 < count → number_of (take count bytes) ≡ Ok value
digits-spell bytes value count are some =
    let field = take count bytes in
    let long : length field ≡ count = length-take-le count bytes are.within in
    let whole : take count field ≡ field = take_all count field (omega (arith, long)) in
    sym (number_of-short field count value (omega (arith, long, some)) (omega (arith, long)) (ap (λ ds. list_all is_ascii_digit ds) whole ∙ are.digits)
    (are.is ∙ ap (λ ds. digits_value 10 ds) (sym whole)) are.small)

-- Each of them is a digit,
pub digit-at : (bytes : List ℕ) (value count : ℕ) → AreDigitsInFront bytes value count → (k : ℕ) → k < count → is_ascii_digit (get_or bytes k 0) ≡ true
digit-at bytes value count are k below =
    ap is_ascii_digit (sym (get_or-take count bytes k 0 below))
    ∙ all-at is_ascii_digit (take count bytes) k 0 are.digits (omega (arith, length-take-le count bytes are.within))

-- and a digit is no blank.
pub digit-no_blank : (b : ℕ) → is_ascii_digit b ≡ true → is_blank b ≡ false
digit-no_blank b digit =
    let low : 48 ≤ b = leb-true _ _ (and_parts _ _ digit).0 in
    rw (ne_eqb b 32 (λ is. absurd (omega (arith, is, low))), ne_eqb b 9 (λ is. absurd (omega (arith, is, low)))) refl
