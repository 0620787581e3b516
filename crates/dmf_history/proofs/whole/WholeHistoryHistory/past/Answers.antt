use Rattle.std.proofs.Common.{ap, subst}
use Rattle.dmf_history.specs.Timeline.{IsTimeline}
use Rattle.dmf_history.proofs.whole.WholeHistoryHistory.past.Goals as goal

pub returns-clause-count : goal.returns-clause-count
returns-clause-count c = ap (λ t. t.place) c.self.view_is

pub returns-clause-timeline : goal.returns-clause-timeline
returns-clause-timeline c = subst IsTimeline c.self.view_is c.self.invariant
