use Rattle.std.proofs.Common.{◌≤◌, ◌+◌, ◌*◌, ◌^◌, arith, sym, ◌∙◌, ⊎_elim}
use Rattle.std.proofs.lemmas.Bool.{cases_lt}
use Rattle.dmf_text.proofs.NumberLemmas.{within-past, past-within, value-within, within-sum}
use Rattle.dmf_text.proofs.digits.with_digit.Goals as goal

pub returns-in_err-value : goal.returns-in_err-value
returns-in_err-value c = λ n is.
    let past : 2 ^ 64 ≤ n = past-within n (sym c.in_err-value.was ∙ is) in
    c.from_residual.ensures ∙ sym (within-past (n * 10 + c.args.digit) (omega arith))

pub returns-in_err-checked_mul : goal.returns-in_err-checked_mul
returns-in_err-checked_mul c = λ n is.
    let same = value-within n c.in_ok-value.field-0 (sym c.in_ok-value.was ∙ is) in
    let past : 2 ^ 64 ≤ n * 10 = ⊎_elim (λ below. absurd (c.in_err-checked_mul.ensures (omega arith))) (λ h. h) (cases_lt (n * 10) (2 ^ 64)) in
    c.from_residual-in_err-checked_mul.ensures ∙ sym (within-past (n * 10 + c.args.digit) (omega arith))

pub returns : goal.returns
returns c = λ n is.
    within-sum n c.in_ok-value.field-0 c.args.digit c.checked_add.result (sym c.in_ok-value.was ∙ is)
    (rw (sym c.in_ok-checked_mul.ensures.1, sym c.from.ensures) c.checked_add.ensures)
