use Rattle.std.proofs.Common.{◌≡◌, ◌≢◌, Result, Some, Ok, Err, ◌∙◌, refl, ap, sym, arith}
use Rattle.std.proofs.lemmas.Option.{slice_get_read}
use Rattle.std.specs.List.{slice_get}
use Rattle.std.specs.Result.{IsErrAnd}
use Rattle.dmf_history.specs.declared.history.RedoFault.{RedoFault}
use Rattle.dmf_history.specs.declared.history.RedoFault.TheVariants as redo
use Rattle.dmf_history.specs.Timeline.{future_of}
use Rattle.dmf_history.proofs.Edits.{future-is, fits, redone, redone-forward, adds-arcs}
use Rattle.dmf_history.proofs.delta.DeltaHistoryHistory.redo.Goals as goal
use Rattle.dmf_history.proofs.delta.DeltaHistoryHistory.redo.Goals.{After-index}

-- A refused request for memory is another fault than having no undone change.
differs : (result : Result (Unit {0}) RedoFault) → IsErrAnd result (λ fault. fault ≡ redo.NoMemory) → result ≢ Err redo.NothingToRedo
differs (Ok done) told e = absurd told
differs (Err fault) told e = cc

-- the edit that is applied again
next : (c : After-index) → slice_get c.self.inside.edits.items c.self.inside.place ≡ Some c.index.result.now
next c =
    let a = c.self.inside in
    slice_get_read a.edits.items _ a.place c.index.result.now a.edits.ok.0
    (omega (arith, c.if-self-len.false, c.len.ensures, c.self.invariant.are.within, a.edits.ok.0)) c.index.ensures

pub returns-then-self-len-clause-last : goal.returns-then-self-len-clause-last
returns-then-self-len-clause-last c =
    let future = ap future_of (sym c.self.view_is) ∙ future-is c.self.invariant in
    (λ _. omega (arith, future, c.if-self-len.true, c.len.ensures, c.self.inside.edits.ok.0), λ _. refl)

pub apply-requires : goal.apply-requires
apply-requires c =
    let is = next (goal.at.apply-requires c).After-index in
    fits c.self.invariant c.index.result.now is

pub returns-in_err-apply-clause-last : goal.returns-in_err-apply-clause-last
returns-in_err-apply-clause-last c =
    let future = ap future_of (sym c.self.view_is) ∙ future-is c.self.invariant in (
      λ e. absurd (differs c.from_residual.result c.from_residual.ensures.1 e),
      λ none. absurd (omega (arith, future, none, c.if-self-len.false, c.len.ensures, c.self.invariant.are.within, c.self.inside.edits.ok.0)),
    )

pub returns-in_err-apply-clause-memory : goal.returns-in_err-apply-clause-memory
returns-in_err-apply-clause-memory c = λ e.
    let is = next (goal.at.returns-in_err-apply-clause-memory c).After-index in
    rw (← c.self.view_is) (adds-arcs c.self.invariant c.index.result.now is c.in_err-apply.ensures.refused)

pub invariant_of-self-2 : goal.invariant_of-self-2
invariant_of-self-2 c =
    let is = next (goal.at.invariant_of-self-2 c).After-index in
    rw c.in_ok-apply.ensures.ok (redone c.self.invariant c.index.result.now is c.reverting_gives_back.ensures)

pub returns-clause-last : goal.returns-clause-last
returns-clause-last c =
    let future = ap future_of (sym c.self.view_is) ∙ future-is c.self.invariant in
    (λ e. absurd (cc), λ none. absurd (omega (arith, future, none, c.if-self-len.false, c.len.ensures, c.self.invariant.are.within, c.self.inside.edits.ok.0)))

pub returns-clause-ok : goal.returns-clause-ok
returns-clause-ok c =
    let is = next (goal.at.returns-clause-ok c).After-index in
    rw (← c.self.view_is, c.in_ok-apply.ensures.ok)
    (redone-forward c.self.invariant c.index.result.now is c.reverting_gives_back.ensures)
