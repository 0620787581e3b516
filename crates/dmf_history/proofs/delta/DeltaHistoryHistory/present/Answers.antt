use Rattle.std.proofs.Common.{subst}
use Rattle.dmf_history.specs.Timeline.{IsTimeline, IsPresent}
use Rattle.dmf_history.proofs.Edits.{is-timeline, is-present}
use Rattle.dmf_history.proofs.delta.DeltaHistoryHistory.present.Goals as goal

pub returns-clause-state : goal.returns-clause-state
returns-clause-state c = subst (λ t. IsPresent t c.self.inside.present) c.self.view_is (is-present c.self.invariant)

pub returns-clause-timeline : goal.returns-clause-timeline
returns-clause-timeline c = subst IsTimeline c.self.view_is (is-timeline c.self.invariant)
