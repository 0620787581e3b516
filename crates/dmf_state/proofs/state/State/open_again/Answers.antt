use Rattle.std.proofs.Common.{ap, ◌∙◌}
use Rattle.dmf_state.specs.declared.arc.Arc.{Arc}
use Rattle.dmf_state.specs.Arc.{open_arc}
use Rattle.dmf_state.proofs.state.State.open_again.Goals as goal

pub change_arc-requires-clause-fit : goal.change_arc-requires-clause-fit
change_arc-requires-clause-fit c = c.requires.fit

pub change_arc-requires-clause-state : goal.change_arc-requires-clause-state
change_arc-requires-clause-state c =
    rw (c.open-arc.ensures ∙ ap (λ (arc : Arc). open_arc arc.tail arc.head c.args.old) c.arc-arc.ensures.value) c.requires.state

pub returns : goal.returns
returns c =
    rw (c.open-arc.ensures ∙ ap (λ (arc : Arc). open_arc arc.tail arc.head c.args.old) c.arc-arc.ensures.value) at c.change_arc.ensures
