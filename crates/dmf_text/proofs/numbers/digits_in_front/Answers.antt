use Rattle.std.proofs.Common.{◌≡◌, ℕ, ◌+◌, ◌*◌, ◌^◌, ◌<◌, ◌≤◌, length, take, arith, ap, subst, ◌∙◌}
use Rattle.std.proofs.Math.Nat.{pow-le-pow_right}
use Rattle.std.proofs.lemmas.Grind.{pow_more}
use Rattle.std.specs.Str.Parse.{digits_value}
use Rattle.dmf_text.specs.Numbers.{AreDigitsInFront}
use Rattle.dmf_text.proofs.NumberLemmas.{more-digits}
use Rattle.dmf_text.proofs.numbers.digits_in_front.Goals as goal

-- A few digits fit 64 bits.
short-more : (value i digit : ℕ) → value < 10 ^ i → digit ≤ 9 → value * 10 + digit < 10 ^ (i + 1)
short-more value i digit small most = omega (arith, small, most, pow_more 10 i)

short-fits : (n i : ℕ) → n < 10 ^ i → i ≤ 19 → n < 2 ^ 64
short-fits n i small short = let most : 10 ^ i ≤ 10 ^ 19 = pow-le-pow_right {n = 10} (omega arith) short in omega (arith, small, most)

pub returns-then-not-is_ascii_digit : goal.returns-then-not-is_ascii_digit
returns-then-not-is_ascii_digit c =
    let i = c.loop-i in
    record {
      within = omega (arith, c.loop-i-test.true, c.min-most.ensures);
      digits = i.invariant.digits;
      is = i.invariant.value;
      small = short-fits i.value i.i i.invariant.small (omega (arith, c.loop-i-test.true, c.min-most.ensures));
    }

pub loop-i-preserved : goal.loop-i-preserved
loop-i-preserved c =
    let bytes = c.args.bytes.now in
    let i = c.loop-i.i in
    let within : i < length bytes = omega (arith, c.loop-i-test.true, c.min-most.ensures) in
    let before = digits_value 10 (take i bytes) in
    let more = more-digits bytes i within c.if-not-is_ascii_digit.ensures.value in
    record {
      digits = more.digits c.loop-i.invariant.digits;
      value = ap (λ v. v * 10 + c.from.result) c.loop-i.invariant.value ∙ ap (λ d. before * 10 + d) c.from.ensures ∙ more.value;
      small = short-more c.loop-i.value i c.from.result c.loop-i.invariant.small (omega (arith, c.from.ensures, c.if-not-is_ascii_digit.ensures.cases));
    }

pub overflow_mul-value : goal.overflow_mul-value
overflow_mul-value c =
    let i = c.loop-i in
    let short : i.i + 1 ≤ 19 = omega (arith, c.loop-i-test.true, c.min-most.ensures) in
    let fits = short-fits (i.value * 10 + 0) (i.i + 1) (short-more i.value i.i 0 i.invariant.small (omega arith)) short in
    omega (arith, fits)

pub overflow_add-value : goal.overflow_add-value
overflow_add-value c =
    let i = c.loop-i in
    let short : i.i + 1 ≤ 19 = omega (arith, c.loop-i-test.true, c.min-most.ensures) in
    let digit : c.from.result ≤ 9 = omega (arith, c.from.ensures, c.if-not-is_ascii_digit.ensures.cases) in
    let fits = short-fits (i.value * 10 + c.from.result) (i.i + 1) (short-more i.value i.i c.from.result i.invariant.small digit) short in
    omega (arith, fits)

pub returns : goal.returns
returns c =
    let bytes = c.args.bytes.now in
    let i = c.loop-i in
    let most = c.min-most.result in
    let all : i.i ≡ most = omega (arith, c.loop-i-test.false, i.auto.i-end) in
    subst (AreDigitsInFront bytes i.value) all (record {
      within = omega (arith, all, c.min-most.ensures);
      digits = i.invariant.digits;
      is = i.invariant.value;
      small = short-fits i.value i.i i.invariant.small (omega (arith, all, c.min-most.ensures));
    })
