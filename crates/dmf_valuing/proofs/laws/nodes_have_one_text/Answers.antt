use Rattle.dmf_valuing.proofs.OneText.{nodes-one-text}
use Rattle.dmf_valuing.proofs.laws.nodes_have_one_text.Goals as goal

pub returns : goal.returns
returns c = nodes-one-text
