use Rattle.dmf_valuing.specs.Rows.{AreWorstPairRows}
use Rattle.dmf_valuing.proofs.Ending.{never-short}
use Rattle.dmf_valuing.proofs.vital.run_vital_worst_pairs.Goals as goal

pub returns-clause-run : goal.returns-clause-run
returns-clause-run g c = never-short (AreWorstPairRows c.args.most) _ _ _ _ _ c.run_valuing.ensures
