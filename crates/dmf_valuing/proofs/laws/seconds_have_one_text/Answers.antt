use Rattle.dmf_valuing.proofs.OneText.{seconds-one-text}
use Rattle.dmf_valuing.proofs.laws.seconds_have_one_text.Goals as goal

pub returns : goal.returns
returns c = seconds-one-text
