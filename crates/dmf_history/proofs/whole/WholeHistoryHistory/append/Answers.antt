use Rattle.std.proofs.lemmas.Option.{slice_get_read}
use Rattle.std.proofs.Common.{ap, ◌∙◌, arith}
use Rattle.dmf_state.specs.Edit.{applied}
use Rattle.dmf_history.specs.Timeline.{Timeline}
use Rattle.dmf_history.proofs.Appending.{appends-all, appends-past}
use Rattle.dmf_history.proofs.whole.WholeHistoryHistory.append.Goals.{then-self, else-self}
use Rattle.dmf_history.proofs.whole.WholeHistoryHistory.append.Goals as goal

pub returns-clause-ok : goal.returns-clause-ok
returns-clause-ok c =
    let a = c.self.inside in
    let t : Timeline = record { states = a.states.items; place = a.place; bound = a.bound } in
    let s = c.index.result.now in
    let made = c.in_ok-apply.ensures.ok ∙ ap (applied c.args.edit) c.in_ok-next.ensures in
    let is = slice_get_read a.states.items _ a.place s a.states.ok.0 (omega (arith, c.self.invariant.place, a.states.ok.0)) c.index.ensures in
    elim c.if-self.branch [
      | then-self w ↦
          rw (← c.self.view_is, w.self-is, c.push_back_reserved.ensures.items, c.truncate.ensures.items, c.reserve.ensures.items, made)
          (appends-all c.args.edit t s is w.if-self.true)
      | else-self w ↦
          rw (← c.self.view_is, w.self-is, w.forget_oldest.ensures, c.push_back_reserved.ensures.items, c.truncate.ensures.items, c.reserve.ensures.items, made)
          (appends-past c.args.edit t s is w.if-self.false)
    ]
