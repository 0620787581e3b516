use Rattle.dmf_solver.specs.Change as change
use Rattle.dmf_session.specs.declared.command.Command.TheVariants.{Close}
use Rattle.dmf_session.specs.Step.{Answers}
use Rattle.dmf_session.proofs.Changed.{answers-appended}
use Rattle.dmf_session.proofs.session.Session.close.Goals as goal

pub returns : goal.returns
returns g c want_cut =
    rw (← c.self.view_is) (answers-appended (g.H.History.timeline c.self.inside.history) (g.H.History.timeline c.change.new.self) _ _
    (change.Close c.args.arc) (λ t result u. Answers want_cut t (Close c.args.arc) result u) _ c.present.ensures.state
    c.in_ok-edit.ensures.refused c.in_ok-edit.ensures.plan.becomes c.change.ensures (λ value is. is) (λ is. is))
