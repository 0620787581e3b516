use Rattle.dmf_state.specs.declared.moves.Direction.TheVariants.{Forward}
use Rattle.dmf_state.specs.Edit.{applied}
use Rattle.dmf_solver.proofs.kept.CarryingFollowed.{some_carry-along}
use Rattle.dmf_solver.proofs.plan.follow_drained.Goals as goal

pub returns-in-Some : goal.returns-in-Some
returns-in-Some c =
    let s = c.args.state.now in
    let edit = c.args.edit.now in
    c.keep_carrying.ensures (applied edit s) c.follow_along.ensures
    (some_carry-along Forward edit s c.args.carrying c.requires.adds_none c.requires.carrying)
