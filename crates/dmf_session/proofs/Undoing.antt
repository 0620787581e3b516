-- One step back undoes an accepted change, if a state is kept before the present one.
use Rattle.std.proofs.Common.{◌≡◌, ◌<◌, ◌≤◌, Result, Ok, nat_le, arith, sym, ap, ◌∙◌, subst}
use Rattle.std.specs.Bool.{MatchBool}
use Rattle.std.proofs.lemmas.Bool.{le-leb, lt-leb}
use Rattle.std.proofs.lemmas.Bool.Decides.{when_true, when_false}
use Rattle.dmf_state.specs.NetworkState.{NetworkState}
use Rattle.dmf_session.specs.declared.command.Reply.{Reply}
use Rattle.dmf_session.specs.declared.command.Reply.TheVariants.{Value}
use Rattle.dmf_session.specs.declared.command.Refusal.{Refusal}
use Rattle.dmf_session.specs.declared.command.Refusal.TheVariants.{NothingToUndo}
use Rattle.dmf_history.specs.Timeline.{Timeline, IsTimeline, IsPresent, extended, appended, back}
use Rattle.dmf_session.specs.Step.{IsRefused, IsMoved, value_of}
use Rattle.dmf_session.specs.Laws.{UndoesChange, ChangeIsUndone}
use Rattle.dmf_session.proofs.Growing.{change-appends}
use Rattle.dmf_history.proofs.Appending.{one-present, before-extended, within_bound-keeps, within_bound-past, forgotten-present}

-- The state before it is present again.
before-appended : (t : Timeline) (s new : NetworkState) → IsPresent t s → 0 < t.bound → IsPresent (back (appended t new) 1) s
before-appended t s new present some =
    let before = before-extended t s new present in
    within_bound-keeps (λ u. IsPresent (back u 1) s) (extended t new) before
    (λ past. forgotten-present (back (extended t new) 1) s before (omega (arith, past, some)))

undone : (t v : Timeline) (s new : NetworkState) (result : Result Reply Refusal) → IsTimeline t → IsPresent t s
    → MatchBool (nat_le 1 (appended t new).place) (IsMoved (back (appended t new) 1) result v) (IsRefused (appended t new) NothingToUndo result v)
    → UndoesChange t.bound s result v
undone t v s new result is present m =
    let u : Timeline = appended t new in
    record {
      kept = λ some.
          let place : 1 ≤ u.place = within_bound-keeps (λ w. 1 ≤ w.place) (extended t new) (omega arith) (λ past. omega (arith, past, some)) in
          let moved : IsMoved (back u 1) result v = when_true _ _ (le-leb 1 u.place place) m in
          let same : moved.state ≡ s = one-present (back u 1) moved.state s moved.present (before-appended t s new present some) in
          (moved.told ∙ ap (λ x. Ok (Value (value_of x))) same, subst (λ w. IsPresent w s) (sym moved.moves) (before-appended t s new present some));
      forgotten = λ none.
          let forgets = within_bound-past (extended t new) (omega (arith, none)) in
          let zero_place : u.place ≡ 0 = ap (λ w. w.place) forgets ∙ omega (arith, is.place, is.at_most, none) in
          let refused : IsRefused u NothingToUndo result v = when_false _ _ (lt-leb 1 u.place (omega (arith, zero_place))) m in
          refused.told;
    }

-- A change that is undone leaves the state before it.
pub change-undone : ChangeIsUndone
change-undone want_cut t u v command reply result s is present asked answers steps =
    let appends = change-appends want_cut t u command reply asked answers in
    undone t v s appends.0 result is present
    (subst (λ w. MatchBool (nat_le 1 w.place) (IsMoved (back w 1) result v) (IsRefused w NothingToUndo result v)) appends.1 steps)
