use Rattle.std.proofs.Common.{ap, sym, ◌∙◌}
use Rattle.dmf_state.specs.declared.arc.Arc.{Arc}
use Rattle.dmf_vital.proofs.Bounds.{loop-loses_nothing}
use Rattle.dmf_vital.proofs.Lost.{are-exits_of_arc, if-ok, lost-arc}
use Rattle.dmf_vital.proofs.rerouting.loss_of_arc.Goals as goal

pub returns-then-arc-clause-loss : goal.returns-then-arc-clause-loss
returns-then-arc-clause-loss c =
    let is = c.arc-arc.ensures.value in
    loop-loses_nothing c.args.state.now.network c.args.j c.requires.ready.network c.requires.is_there
    (ap (λ (a : Arc). a.tail) (sym is) ∙ c.if-arc.true ∙ ap (λ (a : Arc). a.head) is)

pub left_on-requires-clause-exits : goal.left_on-requires-clause-exits
left_on-requires-clause-exits c =
    let is = c.arc-arc.ensures.value in
    are-exits_of_arc c.args.state.now.network c.args.ranks c.args.j c.arc-arc.result.tail c.requires.ready.network c.requires.is_there (ap (λ (a : Arc). a.tail) is)
    (λ same. c.if-arc.false (ap (λ (a : Arc). a.tail) is ∙ same ∙ ap (λ (a : Arc). a.head) (sym is)))

pub returns-clause-loss : goal.returns-clause-loss
returns-clause-loss c =
    if-ok c.left_on.result _ _ c.left_on.ensures.left
    (λ left. lost-arc c.args.state.now.network c.args.ranks c.args.j c.arc-arc.result.tail left c.requires.ready.network c.requires.is_there
    (ap (λ (a : Arc). a.tail) c.arc-arc.ensures.value))
