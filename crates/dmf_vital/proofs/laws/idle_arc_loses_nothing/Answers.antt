use Rattle.dmf_vital.proofs.Bounds.{idle-loses_nothing, loop-loses_nothing}
use Rattle.dmf_vital.proofs.laws.idle_arc_loses_nothing.Goals as goal

pub returns-clause-idle : goal.returns-clause-idle
returns-clause-idle c = idle-loses_nothing

pub returns-clause-a_loop : goal.returns-clause-a_loop
returns-clause-a_loop c = loop-loses_nothing
