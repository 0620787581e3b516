use Rattle.std.proofs.Common.{◌∙◌, ap, subst}
use Rattle.dmf_state.specs.Edit.{applied}
use Rattle.dmf_solver.specs.SmallestSide.{TellsSide}
use Rattle.dmf_solver.proofs.side.side_after.Goals as goal

pub returns : goal.returns
returns c =
    subst (λ t. TellsSide t c.smallest_side.result) (c.in_ok-apply.ensures.ok ∙ ap (applied c.args.edit.now) c.in_ok-after.ensures) c.smallest_side.ensures
