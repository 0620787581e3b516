use Rattle.std.proofs.Common.{sym, subst, refl}
use Rattle.dmf_state.specs.Edit.{applied}
use Rattle.dmf_solver.specs.Planning.{IsSideWanted}
use Rattle.dmf_history.proofs.Appending.{appends-applied}
use Rattle.dmf_session.proofs.Optimal.{planned-optimal}
use Rattle.dmf_session.proofs.session.Session.solve.Goals as goal

pub returns-clause-answer : goal.returns-clause-answer
returns-clause-answer g c =
    let timeline = g.H.History.timeline in
    let s = c.present.result.now in
    let edit = c.in_ok-edit.edit in
    let plans = c.in_ok-edit.ensures.edit in
    let present = rw c.take_network.ensures.unchanged at c.present.ensures.state in
    let appends = appends-applied (timeline c.take_network.new.self) (timeline c.append.new.self) s edit c.present.ensures.state c.in_ok-append.ensures.ok in (
      s,
      present,
      record {
        new = applied edit s;
        becomes = plans.plan.becomes;
        side = c.in_ok-edit.side;
        side_is = subst (λ n. IsSideWanted c.args.want_cut n c.in_ok-edit.side) (sym plans.plan.becomes.0) c.in_ok-edit.ensures.side;
        told = refl;
        appends = rw c.take_network.ensures.unchanged at appends;
      },
    )

pub returns-clause-optimal : goal.returns-clause-optimal
returns-clause-optimal g c =
    let timeline = g.H.History.timeline in
    let plans = c.in_ok-edit.ensures.edit in
    planned-optimal c.greatest_is_optimal.ensures (timeline c.take_network.new.self)
    (timeline c.append.new.self) c.present.result.now c.in_ok-edit.edit c.present.ensures.state plans.plan.fits plans.plan.becomes plans.greatest
    c.in_ok-append.ensures.ok
