use Rattle.std.proofs.Common.{subst}
use Rattle.dmf_solver.specs.KeptNetwork.{KeepsNetwork}
use Rattle.dmf_session.proofs.kept.kept_before.Goals as goal

pub follow-requires-clause-network : goal.follow-requires-clause-network
follow-requires-clause-network g c =
    let s = c.present.result.now in
    subst (KeepsNetwork s) c.in_ok-kept.was (c.requires s c.present.ensures.state)
