use Rattle.std.proofs.Common.{IfSome, ap, sym, subst, ◌∙◌, arith}
use Rattle.std.proofs.lemmas.Option.{IfSome_then}
use Rattle.dmf_history.specs.Timeline.{future_of, LeadsOn}
use Rattle.dmf_history.proofs.Edits.{future-is, found, none-past, leads-on}
use Rattle.dmf_history.proofs.delta.DeltaHistoryHistory.next_edit.Goals as goal

pub returns-clause-edit : goal.returns-clause-edit
returns-clause-edit c =
    let a = c.self.inside in
    subst (λ t. IfSome c.get.result (λ edit. LeadsOn edit.now t)) c.self.view_is
    (IfSome_then c.get.result (found a.edits.items a.place c.get.result c.get.ensures.item.3)
    (λ edit is. leads-on c.self.invariant edit.now is))

pub returns-clause-none : goal.returns-clause-none
returns-clause-none c =
    let a = c.self.inside in
    let none = none-past a.edits.items a.place c.get.result c.get.ensures.item.3 in
    let future = ap future_of (sym c.self.view_is) ∙ future-is c.self.invariant in
    (λ e. omega (arith, future, none.0 e), λ last. none.1 (omega (arith, future, last)))
