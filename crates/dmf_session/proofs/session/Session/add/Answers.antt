use Rattle.std.proofs.Common.{length, ap, subst}
use Rattle.dmf_history.specs.Timeline.{Appends}
use Rattle.dmf_solver.specs.Change as change
use Rattle.dmf_session.proofs.Changed.{IsChanged-added}
use Rattle.dmf_session.proofs.session.Session.add.Goals as goal

pub returns : goal.returns
returns g c want_cut =
    let timeline = g.H.History.timeline in
    let u = timeline c.append.new.self in
    let appends = subst (λ h. Appends c.in_ok-edit.edit (timeline h) u) c.self.view_is c.in_ok-append.ensures.ok in
    let changed = IsChanged-added (timeline c.args.self.now) u c.present.result.now _ c.in_ok-edit.edit (change.Add c.args.tail c.args.head c.args.cap) _ _
    c.present.ensures.state c.in_ok-edit.ensures.plan.becomes appends c.present-present.ensures.state (ap length c.arcs.ensures.value) c.value.ensures.value in
    (c.present.result.now, c.present.ensures.state, rw (← c.in_ok-edit.ensures.refused) changed)
