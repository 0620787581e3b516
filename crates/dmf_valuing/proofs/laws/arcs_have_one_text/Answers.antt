use Rattle.dmf_valuing.proofs.OneText.{arcs-one-text}
use Rattle.dmf_valuing.proofs.laws.arcs_have_one_text.Goals as goal

pub returns : goal.returns
returns c = arcs-one-text
