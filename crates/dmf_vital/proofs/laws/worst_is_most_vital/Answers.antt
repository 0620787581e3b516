use Rattle.dmf_vital.proofs.Ranking.{worst-most_vital}
use Rattle.dmf_vital.proofs.laws.worst_is_most_vital.Goals as goal

pub returns : goal.returns
returns c = worst-most_vital
