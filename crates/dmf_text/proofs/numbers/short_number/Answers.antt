use Rattle.std.proofs.Common.{◌<◌, length, take, drop, ap, ◌∙◌, length-take-le, arith}
use Rattle.dmf_text.proofs.FieldLemmas.{IsSplit, fields-split}
use Rattle.dmf_text.proofs.numbers.short_number.Goals as goal

pub returns : goal.returns
returns c =
    let line = c.args.line.now in
    let rest = c.split_at.result.1.now in
    let count = c.in_ok-value.count in
    let is = c.in_ok-value.ensures in
    let split : IsSplit line (take count rest) c.split_at-2.result.1.now = record {
      rest = rest;
      skipped = c.split_at.ensures.back ∙ ap (λ n. drop n line) c.leading_blanks.ensures.count;
      front = ap (λ n. take n rest) is.ends;
      back = c.split_at-2.ensures.back ∙ ap (λ n. drop n rest) is.ends;
    } in
    let some : 0 < length (take count rest) = omega (arith, length-take-le count rest is.within, is.some) in
    record { first = take count rest; splits = fields-split _ _ _ split some; spells = is.spells }
