use Rattle.std.proofs.Common.{sym, arith}
use Rattle.std.proofs.lemmas.List.Sums.{prefix_len_is}
use Rattle.dmf_text.specs.Fields.{is_blank}
use Rattle.dmf_text.proofs.field.leading_blanks.Goals as goal

pub returns-then-not-is_blank-clause-count : goal.returns-then-not-is_blank-clause-count
returns-then-not-is_blank-clause-count c =
    sym (prefix_len_is is_blank c.args.bytes.now c.loop-i.i 0 (omega arith) c.loop-i.invariant (λ _. sym c.if-not-is_blank.ensures))

pub returns-clause-count : goal.returns-clause-count
returns-clause-count c =
    sym (prefix_len_is is_blank c.args.bytes.now _ 0 (omega arith) (λ k below. c.loop-i.invariant k (omega arith)) (λ below. absurd (omega arith)))
