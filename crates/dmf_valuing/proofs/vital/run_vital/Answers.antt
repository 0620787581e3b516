use Rattle.dmf_valuing.specs.Rows.{AreArcRows}
use Rattle.dmf_valuing.proofs.Ending.{never-short}
use Rattle.dmf_valuing.proofs.vital.run_vital.Goals as goal

pub returns-clause-run : goal.returns-clause-run
returns-clause-run g c = never-short AreArcRows _ _ _ _ _ c.run_valuing.ensures
