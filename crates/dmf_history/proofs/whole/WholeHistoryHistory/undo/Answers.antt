use Rattle.std.proofs.Common.{ap, arith}
use Rattle.std.proofs.lemmas.Bool.{false≢true}
use Rattle.dmf_history.specs.Timeline.{back}
use Rattle.dmf_history.proofs.whole.WholeHistoryHistory.undo.Goals as goal

pub returns-then-self-eq0-clause-variant : goal.returns-then-self-eq0-clause-variant
returns-then-self-eq0-clause-variant c =
    (λ e. absurd (false≢true e), λ some. absurd (omega (arith, some, c.if-self-eq0.true, ap (λ t. t.place) c.self.view_is)))

pub returns-clause-ok : goal.returns-clause-ok
returns-clause-ok c = ap (λ t. back t 1) c.self.view_is
