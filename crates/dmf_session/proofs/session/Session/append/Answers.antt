use Rattle.std.proofs.Common.{sym, subst}
use Rattle.dmf_session.specs.Kept.{KeepsApplied}
use Rattle.dmf_history.specs.Timeline.{FitsPresent, Appends}
use Rattle.dmf_session.proofs.Keeping.{KeepsPresent-appended}
use Rattle.dmf_session.proofs.session.Session.append.Goals as goal

pub append-requires : goal.append-requires
append-requires g c = record { fits = subst (λ h. FitsPresent c.args.edit (g.H.History.timeline h)) (sym c.self.view_is) c.requires.fits }

pub invariant_of-self-2 : goal.invariant_of-self-2
invariant_of-self-2 g c =
    let timeline = g.H.History.timeline in
    let fits = subst (λ h. KeepsApplied c.args.edit (timeline h) c.args.kept) (sym c.self.view_is) c.requires.kept in
    KeepsPresent-appended (timeline c.self.inside.history) (timeline c.append.new.self) c.args.edit c.args.kept fits c.in_ok-append.ensures.ok

pub returns-clause-ok : goal.returns-clause-ok
returns-clause-ok g c =
    let timeline = g.H.History.timeline in
    subst (λ h. Appends c.args.edit (timeline h) (timeline c.append.new.self)) c.self.view_is c.in_ok-append.ensures.ok
