-- Each command has one answer.
use Rattle.std.proofs.Common.{◌≡◌, Bool, true, false, Option, Some, None, Result, Ok, Err, nat_le, refl, sym, ap, ◌∙◌, subst}
use Rattle.std.specs.Bool.{MatchBool}
use Rattle.std.specs.Option.{MatchOption}
use Rattle.dmf_solver.specs.declared.fault.PlanFault.{PlanFault}
use Rattle.dmf_solver.specs.Planning.{IsSideWanted}
use Rattle.dmf_state.specs.Network.{Network}
use Rattle.dmf_state.specs.NetworkState.{NetworkState, IsState}
use Rattle.dmf_solver.specs.Greatest.{IsSurpassed}
use Rattle.dmf_state.specs.Side.{CutSide}
use Rattle.dmf_solver.specs.Change.{Change, change_fault}
use Rattle.dmf_solver.specs.Change as change
use Rattle.dmf_session.specs.declared.command.Reply.{Reply}
use Rattle.dmf_session.specs.declared.command.Reply.TheVariants.{Value, Solution, Cut}
use Rattle.dmf_session.specs.declared.command.Refusal.{Refusal}
use Rattle.dmf_session.specs.declared.command.Refusal.TheVariants.{NothingToUndo, NothingToRedo, NotGreatest}
use Rattle.dmf_history.specs.Timeline.{Timeline, IsPresent, future_of, appended, back, forward}
use Rattle.dmf_session.specs.Step.{Kind, Changing, Solving, GoingBack, GoingOn, Telling, TellingCut, kind_of, StepsAs}
use Rattle.dmf_session.specs.Step.{Changes, IsChanged, IsRefused, IsMoved, IsSolved, TellsCut, refusal_of, value_of}
use Rattle.dmf_session.specs.Laws.{HasStates, HasOneAnswer}
use Rattle.dmf_session.proofs.Optimal.{not-surpassed}
use Rattle.dmf_history.proofs.Appending.{one-present}
use Rattle.dmf_session.proofs.Changed.{is-state}
use Rattle.dmf_solver.specs.Laws.{HasOneSmallestSide, HasOneOutcome}

-- what is true of every network
pub record NetworkOneLaws : Type 0 where
  pub outcome : HasOneOutcome
  pub side : HasOneSmallestSide

-- ---- changes

module _ (law : HasOneOutcome) (t u v : Timeline) (asked : Change) (reply : NetworkState → Reply) (result other : Result Reply Refusal) where
  one-by_fault : (s : NetworkState) (fault : Option PlanFault) → IsState s
      → MatchOption fault (IsChanged t s asked reply result u) (λ f. IsRefused t (refusal_of f) result u)
      → MatchOption fault (IsChanged t s asked reply other v) (λ f. IsRefused t (refusal_of f) other v) → (result ≡ other) × (u ≡ v)
  one-by_fault s None state a b =
      let same : a.new ≡ b.new = law s a.new b.new asked state a.becomes b.becomes in
      (a.told ∙ ap (λ new. Ok (reply new)) same ∙ sym b.told, a.appends ∙ ap (appended t) same ∙ sym b.appends)
  one-by_fault s (Some f) state a b = (cc, cc)

  -- Any two answers to one change are equal.
  one-change : HasStates t → (s : NetworkState) × IsPresent t s × Changes t s asked reply result u
      → (s : NetworkState) × IsPresent t s × Changes t s asked reply other v → (result ≡ other) × (u ≡ v)
  one-change has a b =
      one-by_fault a.0 (change_fault a.0 asked) (is-state t a.0 has a.1) a.2
      (subst (λ s. Changes t s asked reply other v) (one-present t b.0 a.0 b.1 a.1) b.2)

-- ---- solving

one-wanted : HasOneSmallestSide → (want_cut : Bool) (n : Network) (side other : Option CutSide) → IsSideWanted want_cut n side → IsSideWanted want_cut n other
    → side ≡ other
one-wanted law true n (Some side) (Some other) a b = ap (λ x. Some x) (law n side other a b)
one-wanted law true n (Some side) None a b = absurd b
one-wanted law true n None other a b = absurd a
one-wanted law false n None None a b = refl
one-wanted law false n None (Some other) a b = absurd b
one-wanted law false n (Some side) other a b = absurd a

-- Any two answers to one solve are equal.
one-solved : NetworkOneLaws → (want_cut : Bool) (t u v : Timeline) (s : NetworkState) (result other : Result Reply Refusal) → IsState s
    → IsSolved want_cut t s result u → IsSolved want_cut t s other v → (result ≡ other) × (u ≡ v)
one-solved laws want_cut t u v s result other state a b =
    let same : a.new ≡ b.new = laws.outcome s a.new b.new change.Solve state a.becomes b.becomes in
    let side : a.side ≡ b.side = one-wanted laws.side want_cut b.new.network a.side b.side
    (subst (λ new. IsSideWanted want_cut new.network a.side) same a.side_is) b.side_is in
    (a.told ∙ ap (λ x. Ok (Solution x)) side ∙ sym b.told, a.appends ∙ ap (λ new. appended t new) same ∙ sym b.appends)

-- ---- steps back and forward

-- Any two answers to one undo or redo are equal.
one-move : (t moved u v : Timeline) (refusal : Refusal) (result other : Result Reply Refusal) (may : Bool)
    → MatchBool may (IsMoved moved result u) (IsRefused t refusal result u) → MatchBool may (IsMoved moved other v) (IsRefused t refusal other v)
    → (result ≡ other) × (u ≡ v)
one-move t moved u v refusal result other true a b =
    let same = one-present moved a.state b.state a.present b.present in
    (a.told ∙ ap (λ s. Ok (Value (value_of s))) same ∙ sym b.told, cc)
one-move t moved u v refusal result other false a b = (cc, cc)

-- ---- printing a cut

told-cut : HasOneSmallestSide → (s : NetworkState) (side : CutSide) (other : Result Reply Refusal) → TellsCut s (Ok (Cut side)) → TellsCut s other
    → Ok (Cut side) ≡ other
told-cut law s side (Ok (Cut also)) a b = ap (λ x. Ok (Cut x)) (law s.network side also a.1 b.1)
told-cut law s side (Err NotGreatest) a b = absurd (not-surpassed s.network s.flows a.0 b)
told-cut law s side other a b = absurd b

told-surpassed : (s : NetworkState) (other : Result Reply Refusal) → IsSurpassed s.network s.flows → TellsCut s other → Err NotGreatest ≡ other
told-surpassed s (Ok (Cut side)) a b = absurd (not-surpassed s.network s.flows b.0 a)
told-surpassed s (Err NotGreatest) a b = refl
told-surpassed s other a b = absurd b

-- Any two answers that tell the cut of one state are equal.
one-told : HasOneSmallestSide → (s : NetworkState) (result other : Result Reply Refusal) → TellsCut s result → TellsCut s other → result ≡ other
one-told law s (Ok (Cut side)) other a b = told-cut law s side other a b
one-told law s (Err NotGreatest) other a b = told-surpassed s other a b
one-told law s result other a b = absurd a

-- ---- each kind

one-answer : NetworkOneLaws → (want_cut : Bool) (t u v : Timeline) (kind : Kind) (result other : Result Reply Refusal) → HasStates t
    → StepsAs want_cut t kind result u → StepsAs want_cut t kind other v → (result ≡ other) × (u ≡ v)
one-answer laws want_cut t u v (Changing asked reply) result other has a b = one-change laws.outcome t u v asked reply result other has a b
one-answer laws want_cut t u v Solving result other has a b =
    one-solved laws want_cut t u v a.0 result other (is-state t a.0 has a.1) a.2
    (subst (λ s. IsSolved want_cut t s other v) (one-present t b.0 a.0 b.1 a.1) b.2)
one-answer laws want_cut t u v (GoingBack steps) result other has a b = one-move t (back t steps) u v NothingToUndo result other (nat_le steps t.place) a b
one-answer laws want_cut t u v (GoingOn steps) result other has a b =
    one-move t (forward t steps) u v NothingToRedo result other (nat_le steps (future_of t)) a b
one-answer laws want_cut t u v (Telling reply) result other has a b = (a.0 ∙ sym b.0, a.1 ∙ sym b.1)
one-answer laws want_cut t u v TellingCut result other has a b =
    (one-told laws.side a.0.0 result other a.0.2 (subst (λ s. TellsCut s other) (one-present t b.0.0 a.0.0 b.0.1 a.0.1) b.0.2), a.1 ∙ sym b.1)

-- Any two answers to one command are equal.
pub has-one-answer : NetworkOneLaws → HasOneAnswer
has-one-answer laws want_cut t u v command result other has a b = one-answer laws want_cut t u v (kind_of command) result other has a b
