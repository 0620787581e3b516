use Rattle.std.proofs.Common.{subst, ap, sym, ◌∙◌, arith}
use Rattle.dmf_history.specs.Timeline.{IsTimeline, future_of}
use Rattle.dmf_history.proofs.Edits.{is-timeline, future-is}
use Rattle.dmf_history.proofs.delta.DeltaHistoryHistory.future.Goals as goal

pub returns-clause-count : goal.returns-clause-count
returns-clause-count c =
    let future = ap future_of (sym c.self.view_is) ∙ future-is c.self.invariant in
    omega (arith, future, c.len.ensures, c.self.inside.edits.ok.0)

pub returns-clause-timeline : goal.returns-clause-timeline
returns-clause-timeline c = subst IsTimeline c.self.view_is (is-timeline c.self.invariant)
