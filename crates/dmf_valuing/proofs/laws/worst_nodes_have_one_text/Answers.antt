use Rattle.dmf_valuing.proofs.OneText.{worst_nodes-one-text}
use Rattle.dmf_valuing.proofs.laws.worst_nodes_have_one_text.Goals as goal

pub returns : goal.returns
returns c = worst_nodes-one-text
