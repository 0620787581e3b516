use Rattle.std.proofs.lemmas.Option.{slice_get_read}
use Rattle.std.proofs.Common.{subst, arith}
use Rattle.dmf_history.specs.Timeline.{IsTimeline, IsPresent}
use Rattle.dmf_history.proofs.whole.WholeHistoryHistory.present.Goals as goal

pub returns-clause-state : goal.returns-clause-state
returns-clause-state c =
    let a = c.self.inside in
    let s = c.index.result.now in
    subst (λ t. IsPresent t s) c.self.view_is (slice_get_read a.states.items _ a.place s a.states.ok.0
    (omega (arith, c.self.invariant.place, a.states.ok.0)) c.index.ensures)

pub returns-clause-timeline : goal.returns-clause-timeline
returns-clause-timeline c = subst IsTimeline c.self.view_is c.self.invariant
