use Rattle.dmf_valuing.proofs.OneText.{worst_arcs-one-text}
use Rattle.dmf_valuing.proofs.laws.worst_arcs_have_one_text.Goals as goal

pub returns : goal.returns
returns c = worst_arcs-one-text
