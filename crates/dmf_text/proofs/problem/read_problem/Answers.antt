use Rattle.std.proofs.Common.{Ok, Err, sym, ap, ◌∙◌, inl, inr, ⊎_elim}
use Rattle.dmf_text.specs.Fields.{fields}
use Rattle.dmf_text.specs.Reading.{with_line}
use Rattle.dmf_text.proofs.JudgingLemmas.{walk-start, walk-next, walk-bad, walk-end}
use Rattle.dmf_text.proofs.ProblemLemmas.{facts_of-push}
use Rattle.dmf_text.proofs.problem.read_problem.Goals as goal

pub loop-number-init : goal.loop-number-init
loop-number-init c = walk-start c.args.text.now _ c.new-lines.ensures.lines c.new-lines.ensures.len

pub loop-number-preserved : goal.loop-number-preserved
loop-number-preserved c =
    let given = c.in-Some.ensures in
    let line = fields given.line in
    let taken = c.in_default-take_line.ensures given.line given.is in
    walk-next _ _ _ _ c.loop-number.invariant _ _ _ given.steps _ taken.0
    (λ before facts. taken.1 ∙ ap (λ s. with_line s line) facts ∙ sym (facts_of-push before line))

pub returns-in-Err : goal.returns-in-Err
returns-in-Err c =
    let given = c.in-Some.ensures in
    ⊎_elim (λ memory. inl (ap (λ fault. Err fault) memory))
    (λ told. ⊎_elim (λ memory. inl (ap (λ fault. Err fault) (c.at.ensures.memory memory)))
    (λ bad. inr (ap (λ fault. Err fault) told ∙ sym (walk-bad _ _ _ _ c.loop-number.invariant _ _ _ given.steps _ bad)))
    (c.in-Err.ensures given.line given.is))
    c.at.ensures.told

pub returns-in-Ok : goal.returns-in-Ok
returns-in-Ok c = inr (sym (walk-end _ _ _ _ c.loop-number.invariant c.in_default.ensures (Ok c.in-Ok.state) c.in-Ok.ensures))

pub returns-in-Err-finish : goal.returns-in-Err-finish
returns-in-Err-finish c =
    ⊎_elim (λ memory. inl (ap (λ fault. Err fault) memory))
    (λ told. inr (ap (λ fault. Err fault) told
    ∙ sym (walk-end _ _ _ _ c.loop-number.invariant c.in_default.ensures (Err c.in-Err-finish.kind) c.in-Err-finish.ensures)))
    c.at-in-Err-finish.ensures.told
