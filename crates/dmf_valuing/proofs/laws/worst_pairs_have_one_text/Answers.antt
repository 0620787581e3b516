use Rattle.dmf_valuing.proofs.OneText.{worst_pairs-one-text}
use Rattle.dmf_valuing.proofs.laws.worst_pairs_have_one_text.Goals as goal

pub returns : goal.returns
returns c = worst_pairs-one-text
