use Rattle.std.proofs.Common.{refl, sym, ap, ◌∙◌, arith}
use Rattle.dmf_text.specs.Number.{within}
use Rattle.dmf_text.proofs.NumberLemmas.{within-below, number_of-other, number_of-all, more-digits}
use Rattle.dmf_text.proofs.digits.long_number.Goals as goal

pub loop-byte-init : goal.loop-byte-init
loop-byte-init c = record { digits = refl; value = sym (within-below 0 (omega arith)) }

pub returns-then-not-is_ascii_digit : goal.returns-then-not-is_ascii_digit
returns-then-not-is_ascii_digit c =
    number_of-other c.args.field.now c.loop-byte.byte-index c.loop-byte-test.true c.if-not-is_ascii_digit.ensures.value

pub loop-byte-preserved : goal.loop-byte-preserved
loop-byte-preserved c =
    let more = more-digits c.args.field.now c.loop-byte.byte-index c.loop-byte-test.true c.if-not-is_ascii_digit.ensures.value in
    record { digits = more.digits c.loop-byte.invariant.digits; value = c.with_digit-value.ensures _ c.loop-byte.invariant.value ∙ ap within more.value }

pub returns : goal.returns
returns c =
    c.ok_or.ensures.value
    ∙ number_of-all c.args.field.now c.loop-byte.byte-index c.loop-byte.value c.requires c.loop-byte-test.false c.loop-byte.invariant.digits
    c.loop-byte.invariant.value
