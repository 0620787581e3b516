use Rattle.std.proofs.Common.{sym, subst}
use Rattle.dmf_state.specs.Network.{IsNetwork}
use Rattle.dmf_state.specs.NetworkState.{IsState}
use Rattle.dmf_solving.proofs.laws.any_is_optimal.Goals as goal

pub returns-clause-value : goal.returns-clause-value
returns-clause-value c want_cut from to old new text result run =
    let state : IsState run.state = c.accepted_is_state.ensures text run.state run.problem.1 in
    let network : IsNetwork run.solved.network = subst IsNetwork (sym run.becomes.0) state.network in
    c.greatest_is_optimal.ensures run.solved network (c.solved_is_greatest.ensures run.state run.solved state run.becomes)
