use Rattle.std.proofs.Common.{◌≡◌, ◌+◌, IfSome, subst, arith}
use Rattle.std.proofs.lemmas.Option.{IfSome_then}
use Rattle.dmf_history.specs.Timeline.{LeadsBack}
use Rattle.dmf_history.proofs.Edits.{found, leads-back}
use Rattle.dmf_history.proofs.delta.DeltaHistoryHistory.last_edit.Goals as goal

pub returns-clause-edit : goal.returns-clause-edit
returns-clause-edit c =
    let a = c.self.inside in
    let k = c.in_ok-last.last in
    let last : a.place ≡ k + 1 = omega (arith, c.in_ok-last.ensures.0, c.in_ok-last.ensures.1) in
    subst (λ t. IfSome c.get.result (λ edit. LeadsBack edit.now t)) c.self.view_is
    (IfSome_then c.get.result (found a.edits.items k c.get.result c.get.ensures.item.3)
    (λ edit is. leads-back c.self.invariant k edit.now last is c.reverting_gives_back.ensures))
