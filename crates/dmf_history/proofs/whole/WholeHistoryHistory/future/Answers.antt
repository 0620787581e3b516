use Rattle.std.proofs.Common.{ap, subst, arith}
use Rattle.dmf_history.specs.Timeline.{IsTimeline, future_of}
use Rattle.dmf_history.proofs.whole.WholeHistoryHistory.future.Goals as goal

pub returns-clause-count : goal.returns-clause-count
returns-clause-count c = omega (arith, ap future_of c.self.view_is, c.len.ensures, c.self.inside.states.ok.0)

pub returns-clause-timeline : goal.returns-clause-timeline
returns-clause-timeline c = subst IsTimeline c.self.view_is c.self.invariant
