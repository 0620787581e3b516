use Rattle.dmf_valuing.specs.Rows.{AreWorstNodeRows}
use Rattle.dmf_valuing.proofs.Ending.{never-short}
use Rattle.dmf_valuing.proofs.vital.run_vital_worst_nodes.Goals as goal

pub returns-clause-run : goal.returns-clause-run
returns-clause-run g c = never-short (AreWorstNodeRows c.args.most) _ _ _ _ _ c.run_valuing.ensures
