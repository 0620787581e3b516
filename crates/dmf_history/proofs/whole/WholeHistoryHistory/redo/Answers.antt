use Rattle.std.proofs.Common.{ap, arith, refl}
use Rattle.dmf_history.specs.Timeline.{future_of}
use Rattle.dmf_history.proofs.whole.WholeHistoryHistory.redo.Goals as goal

pub returns-then-self-len-clause-last : goal.returns-then-self-len-clause-last
returns-then-self-len-clause-last c =
    let future = ap future_of c.self.view_is in
    (λ _. omega (arith, future, c.if-self-len.true, c.len.ensures, c.self.inside.states.ok.0), λ _. refl)
