use Rattle.dmf_valuing.specs.Rows.{AreNodeRows}
use Rattle.dmf_valuing.proofs.Ending.{never-short}
use Rattle.dmf_valuing.proofs.vital.run_vital_nodes.Goals as goal

pub returns-clause-run : goal.returns-clause-run
returns-clause-run g c = never-short AreNodeRows _ _ _ _ _ c.run_valuing.ensures
