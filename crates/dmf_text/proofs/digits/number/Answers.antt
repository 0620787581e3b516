use Rattle.std.proofs.Common.{◌+◌, ◌*◌, ◌<◌, length, take, rules, refl, sym, ◌∙◌, ap, arith}
use Rattle.std.specs.Str.Parse.{digits_value}
use Rattle.dmf_text.proofs.NumberLemmas.{number_of-empty, number_of-other, number_of-short, more-digits}
use Rattle.dmf_text.proofs.digits.number.Goals as goal

pub returns-then-is_empty : goal.returns-then-is_empty
returns-then-is_empty c = sym (number_of-empty c.args.field.now (search rules))

pub loop-byte-init : goal.loop-byte-init
loop-byte-init c = record { digits = refl; value = refl }

pub returns-then-not-is_ascii_digit : goal.returns-then-not-is_ascii_digit
returns-then-not-is_ascii_digit c =
    number_of-other c.args.field.now c.loop-byte.byte-index c.loop-byte-test.true c.if-not-is_ascii_digit.ensures.value

pub loop-byte-preserved : goal.loop-byte-preserved
loop-byte-preserved c =
    let before = digits_value 10 (take c.loop-byte.byte-index c.args.field.now) in
    let more = more-digits c.args.field.now c.loop-byte.byte-index c.loop-byte-test.true c.if-not-is_ascii_digit.ensures.value in
    record {
      digits = more.digits c.loop-byte.invariant.digits;
      value = ap (λ v. v * 10 + c.from.result) c.loop-byte.invariant.value ∙ ap (λ d. before * 10 + d) c.from.ensures ∙ more.value;
    }

pub returns : goal.returns
returns c =
    let some : 0 < length c.args.field.now = search rules in
    number_of-short c.args.field.now c.loop-byte.byte-index c.loop-byte.value some c.loop-byte-test.false c.loop-byte.invariant.digits
    c.loop-byte.invariant.value (omega arith)
