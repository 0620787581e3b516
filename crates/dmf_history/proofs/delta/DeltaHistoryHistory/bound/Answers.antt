use Rattle.std.proofs.Common.{subst}
use Rattle.dmf_history.specs.Timeline.{IsTimeline}
use Rattle.dmf_history.proofs.Edits.{is-timeline}
use Rattle.dmf_history.proofs.delta.DeltaHistoryHistory.bound.Goals as goal

pub returns-clause-timeline : goal.returns-clause-timeline
returns-clause-timeline c = subst IsTimeline c.self.view_is (is-timeline c.self.invariant)
