use Rattle.std.proofs.Common.{◌≡◌, Ok, Err, None, [], sym, ap, ◌∙◌, inl, inr, ⊎_elim}
use Rattle.dmf_text.specs.declared.fault.SolutionFaultKind.TheVariants.{NoMemory}
use Rattle.dmf_text.specs.Fields.{fields}
use Rattle.dmf_text.specs.SolutionReading.{with_line}
use Rattle.dmf_text.proofs.JudgingLemmas.{walk-start, walk-next, walk-bad, walk-end}
use Rattle.dmf_text.proofs.SolutionLemmas.{facts_of-push}
use Rattle.dmf_text.proofs.solution.read_solution.Goals as goal

pub loop-number-init : goal.loop-number-init
loop-number-init c =
    let same = c.into_iter-number-iterator.ensures.into_iter_gives in (
      record { value = None; flows = [] },
      c.in-Ok.ensures,
      walk-start c.args.text.now _ (same ∙ c.new-number-items.ensures.lines) (rw same c.new-number-items.ensures.len),
    )

pub loop-number-preserved : goal.loop-number-preserved
loop-number-preserved c =
    let before = c.loop-number.invariant in
    let line = fields c.in-Some.line.now in
    let taken = c.in_default-take_line.ensures c.args.state.now.network.arcs before.0 before.1 in (
      with_line before.0 line,
      taken.1,
      walk-next _ _ _ _ before.2 _ _ _ c.in-Some.ensures.steps _ taken.0 (λ lines facts. ap (λ s. with_line s line) facts ∙ sym (facts_of-push lines line)),
    )

pub returns-in-Err : goal.returns-in-Err
returns-in-Err c =
    let before = c.loop-number.invariant in
    let bad = c.in-Err.ensures c.args.state.now.network.arcs before.0 before.1 in
    ⊎_elim (λ memory. inl (ap (λ fault. Err fault) memory))
    (λ told. inr (ap (λ fault. Err fault) told ∙ sym (walk-bad _ _ _ _ before.2 _ _ _ c.in-Some.ensures.steps _ bad)))
    c.at-in-Err.ensures.told

pub returns-in-Ok-finish : goal.returns-in-Ok-finish
returns-in-Ok-finish c =
    let before = c.loop-number.invariant in
    ⊎_elim (λ memory. absurd (let wrong : ⊥ = cc in wrong))
    (λ end. inr (sym (walk-end _ _ _ _ before.2 c.in-None.ensures.steps.0 (Ok c.in-Ok-finish.state) end)))
    (c.in-Ok-finish.ensures before.0 before.1)

pub returns-in-Err-finish : goal.returns-in-Err-finish
returns-in-Err-finish c =
    let before = c.loop-number.invariant in
    ⊎_elim (λ memory. let kind : c.in-Err-finish.kind ≡ NoMemory = cc in inl (ap (λ fault. Err fault) (c.at-in-Err-finish.ensures.memory kind)))
    (λ end. ⊎_elim (λ memory. inl (ap (λ fault. Err fault) memory))
    (λ told. inr (ap (λ fault. Err fault) told ∙ sym (walk-end _ _ _ _ before.2 c.in-None.ensures.steps.0 (Err c.in-Err-finish.kind) end)))
    c.at-in-Err-finish.ensures.told)
    (c.in-Err-finish.ensures before.0 before.1)
