use Rattle.std.proofs.Common.{sym, arith}
use Rattle.std.proofs.lemmas.List.Sums.{position_or_len_is}
use Rattle.dmf_text.specs.Fields.{is_blank}
use Rattle.dmf_text.proofs.field.first_blank.Goals as goal

pub returns-then-is_blank-clause-place : goal.returns-then-is_blank-clause-place
returns-then-is_blank-clause-place c =
    sym (position_or_len_is is_blank c.args.bytes.now c.loop-i.i 0 (omega arith) c.loop-i.invariant (λ _. sym c.if-is_blank.ensures))

pub returns-clause-place : goal.returns-clause-place
returns-clause-place c =
    sym (position_or_len_is is_blank c.args.bytes.now _ 0 (omega arith) (λ k below. c.loop-i.invariant k (omega arith)) (λ below. absurd (omega arith)))
