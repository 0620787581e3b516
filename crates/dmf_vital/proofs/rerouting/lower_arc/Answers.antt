use Rattle.std.proofs.Common.{ap, subst, ◌∙◌, sym}
use Rattle.dmf_state.specs.declared.arc.Arc.{Arc}
use Rattle.dmf_vital.specs.Loss.{IsLossOfArc}
use Rattle.dmf_vital.proofs.Lost.{are-exits_of_arc, exit_flow-arc, if-ok, lost-arc}
use Rattle.dmf_vital.proofs.rerouting.lower_arc.Goals as goal

pub lower-requires-clause-exits : goal.lower-requires-clause-exits
lower-requires-clause-exits c =
    let is = c.arc-arc.ensures.value in
    are-exits_of_arc c.args.state.now.network c.args.ranks c.args.j c.arc-arc.result.tail c.requires.ready.network c.requires.is_there (ap (λ (a : Arc). a.tail) is)
    (λ same. c.if-arc.false (ap (λ (a : Arc). a.tail) is ∙ same ∙ ap (λ (a : Arc). a.head) (sym is)))

pub returns-clause-stuck : goal.returns-clause-stuck
returns-clause-stuck c =
    let n = c.args.state.now.network in
    let flows = c.lower.new.rerouting.flows.items in
    let tail = c.arc-arc.result.tail in
    if-ok c.lower.result _ _ c.lower.ensures.stuck (λ stuck is so.
    subst (IsLossOfArc n c.args.j) (exit_flow-arc n c.args.ranks c.args.j tail flows c.requires.is_there)
    (lost-arc n c.args.ranks c.args.j tail _ c.requires.ready.network c.requires.is_there (ap (λ (a : Arc). a.tail) c.arc-arc.ensures.value) (is so)))
