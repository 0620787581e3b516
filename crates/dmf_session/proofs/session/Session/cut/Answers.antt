use Rattle.std.proofs.Common.{subst}
use Rattle.dmf_solver.specs.KeptNetwork.{KeepsNetwork}
use Rattle.dmf_session.proofs.session.Session.cut.Goals as goal

pub smallest_side-requires : goal.smallest_side-requires
smallest_side-requires g c =
    let s = c.present-present.result.now in
    subst (KeepsNetwork s) c.in-Some.is (c.self.invariant s c.present-present.ensures.state)
