use Rattle.std.proofs.Common.{refl, ◌∙◌}
use Rattle.dmf_c.proofs.Lost.{arc-losses}
use Rattle.dmf_c.proofs.losses.copy_arc_losses.Goals as goal

pub returns-in-Ok-clause-filled : goal.returns-in-Ok-clause-filled
returns-in-Ok-clause-filled g c =
    λ ok. arc-losses c.args.state.now.network c.args.arcs.now c.in-Ok.of_arcs.items c.copy_from_slice.new.self (c.copy_from_slice.ensures.after ∙ c.deref.ensures.value)
    c.in-Ok.ensures.one_each c.in-Ok.ensures.losses

pub returns-in-Err-clause-refused : goal.returns-in-Err-clause-refused
returns-in-Err-clause-refused g c = λ not_ok. refl
