use Rattle.dmf_session.proofs.Undoing.{change-undone}
use Rattle.dmf_session.proofs.laws.change_is_undone.Goals as goal

pub returns : goal.returns
returns c = change-undone
