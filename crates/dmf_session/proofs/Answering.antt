-- Each command has an answer.
use Rattle.std.proofs.Common.{◌≡◌, ◌≢◌, ◌+◌, ◌<◌, List, take, Bool, true, false, cond, Option, Some, None, is_none, option_map, Result, Ok, Err}
use Rattle.std.proofs.Common.{nat_le, refl, ap, ◌∙◌, arith, ⊎_elim}
use Rattle.std.specs.Bool.{MatchBool}
use Rattle.std.proofs.lemmas.Bool.{leb-true}
use Rattle.std.proofs.lemmas.List.{length_push, length-take-le, length-drop}
use Rattle.std.proofs.lemmas.List.Elements.{All-take, All-push, All-drop}
use Rattle.dmf_solver.specs.Planning.{IsSideWanted}
use Rattle.dmf_state.specs.declared.fault.ArcFault.{ArcFault}
use Rattle.dmf_state.specs.declared.fault.ArcFault.TheVariants as arc
use Rattle.dmf_solver.specs.declared.fault.PlanFault.{PlanFault}
use Rattle.dmf_solver.specs.declared.fault.PlanFault.TheVariants as plan
use Rattle.dmf_state.specs.NetworkState.{NetworkState, IsState}
use Rattle.dmf_solver.specs.Change.{Change, change_fault, plan_fault}
use Rattle.dmf_solver.specs.Change as change
use Rattle.dmf_solver.specs.Greatest.{IsGreatest, IsSurpassed}
use Rattle.dmf_state.specs.Side.{CutSide}
use Rattle.dmf_solver.specs.Laws.{HasSmallestSide, IsGreatestOrSurpassed, HasOutcome}
use Rattle.dmf_session.specs.declared.command.Reply.{Reply}
use Rattle.dmf_session.specs.declared.command.Reply.TheVariants.{Value, Solution, Cut}
use Rattle.dmf_session.specs.declared.command.Refusal.{Refusal}
use Rattle.dmf_session.specs.declared.command.Refusal.TheVariants.{NothingToUndo, NothingToRedo, NotGreatest, NoMemory}
use Rattle.dmf_history.specs.Timeline.{Timeline, IsPresent, future_of, extended, forgotten, appended, back, forward}
use Rattle.dmf_session.specs.Step.{Kind, Changing, Solving, GoingBack, GoingOn, Telling, TellingCut, kind_of, StepsAs, IsChanged, IsRefused, IsMoved, refusal_of}
use Rattle.dmf_session.specs.Step.{value_of}
use Rattle.dmf_session.specs.Laws.{HasStates, HasAnswer}
use Rattle.dmf_history.proofs.Appending.{within_bound-keeps}
use Rattle.dmf_session.proofs.Changed.{some-present}

-- what is true of every network
pub record NetworkLaws : Type 0 where
  pub outcome : HasOutcome
  pub side : HasSmallestSide
  pub greatest : IsGreatestOrSurpassed

-- ---- timelines

-- Appending a state gives a timeline of states.
HasStates-extended : (t : Timeline) (s : NetworkState) → HasStates t → IsState s → HasStates (extended t s)
HasStates-extended t s has state =
    let front : List NetworkState = take (t.place + 1) t.states in
    record {
      place = omega (arith, has.place, length_push front s, length-take-le (t.place + 1) t.states);
      states = All-push IsState front s (All-take IsState (t.place + 1) t.states has.states) state;
    }

HasStates-forgotten : (t : Timeline) → HasStates t → 0 < t.place → HasStates (forgotten t)
HasStates-forgotten t has past =
    record { place = omega (arith, has.place, past, length-drop 1 t.states); states = All-drop IsState 1 t.states has.states }

HasStates-appended : (t : Timeline) (s : NetworkState) → HasStates t → IsState s → HasStates (appended t s)
HasStates-appended t s has state =
    let all = HasStates-extended t s has state in
    within_bound-keeps HasStates (extended t s) all (λ past. HasStates-forgotten (extended t s) all (omega (arith, past)))

-- ---- changes

-- No change is refused for want of memory.
close-fault : (has closed : Bool) → cond has (cond closed (Some plan.Closed) None) (Some plan.NoSuchArc) ≢ Some plan.NoMemory
close-fault false closed e = cc
close-fault true true e = cc
close-fault true false e = cc

cap-fault : (has closed small : Bool) → cond (is_none (cond has (cond closed (Some plan.Closed) None) (Some plan.NoSuchArc)))
    (cond small None (Some plan.SumTooLarge)) (cond has (cond closed (Some plan.Closed) None) (Some plan.NoSuchArc)) ≢ Some plan.NoMemory
cap-fault false closed small e = cc
cap-fault true true small e = cc
cap-fault true false false e = cc
cap-fault true false true e = cc

add-fault : (f : Option ArcFault) → option_map plan_fault f ≢ Some plan.NoMemory
add-fault None e = cc
add-fault (Some arc.NoSuchNode) e = cc
add-fault (Some arc.TooManyArcs) e = cc
add-fault (Some arc.SumTooLarge) e = cc

shut-fault : (has : Bool) → cond has None (Some plan.NoSuchNode) ≢ Some plan.NoMemory
shut-fault true e = cc
shut-fault false e = cc

no-memory-fault : (s : NetworkState) (asked : Change) → change_fault s asked ≢ Some plan.NoMemory
no-memory-fault s (change.Cap j cap) e = cap-fault _ _ _ e
no-memory-fault s (change.Close j) e = close-fault _ _ e
no-memory-fault s (change.Add tail head cap) e = add-fault _ e
no-memory-fault s (change.Shut node) e = shut-fault _ e
no-memory-fault s change.Solve e = cc

-- A fault that is not want of memory gives another refusal.
refusal-not-memory : (f : PlanFault) → f ≢ plan.NoMemory → refusal_of f ≢ NoMemory
refusal-not-memory plan.NoMemory differs e = differs refl
refusal-not-memory f differs e = cc

-- An answer to a command of this kind.
record AnsweredAs (want_cut : Bool) (t : Timeline) (kind : Kind) : Type 0 where
  result : Result Reply Refusal
  after : Timeline
  steps : StepsAs want_cut t kind result after
  memory : result ≢ Err NoMemory
  has_states : HasStates after

module _ (laws : NetworkLaws) (want_cut : Bool) (t : Timeline) (has : HasStates t) where
  changed : (asked : Change) (reply : NetworkState → Reply) (s : NetworkState) → IsPresent t s → IsState s
      → (fault : Option PlanFault) → change_fault s asked ≡ fault → AnsweredAs want_cut t (Changing asked reply)
  changed asked reply s present state None none =
      let made = laws.outcome s asked state none in
      let is : IsChanged t s asked reply (Ok (reply made.after)) (appended t made.after) =
      record { new = made.after; becomes = made.becomes; told = refl; appends = refl } in
      record {
        result = Ok (reply made.after);
        after = appended t made.after;
        steps = (s, present, rw none is);
        memory = λ e. cc;
        has_states = HasStates-appended t made.after has made.state;
      }
  changed asked reply s present state (Some f) some =
      let is : IsRefused t (refusal_of f) (Err (refusal_of f)) t = record { told = refl; unchanged = refl } in
      record {
        result = Err (refusal_of f);
        after = t;
        steps = (s, present, rw some is);
        memory = λ e. refusal-not-memory f (λ same. no-memory-fault s asked (some ∙ ap (λ x. Some x) same)) (cc);
        has_states = has;
      }

  -- a side, if one is wanted
  wanted : (s : NetworkState) → IsState s → (b : Bool) → (side : Option CutSide) × IsSideWanted b s.network side
  wanted s state true = let some = laws.side s.network state.network in (Some some.0, some.1)
  wanted s state false = (None, tt)

  -- A step back or forward has as its reply the value of the state there, whether or not there is one.
  moved : (kind : Kind) (there : Timeline) (refusal : Refusal) → refusal ≢ NoMemory → (may : Bool) → (may ≡ true → HasStates there)
      → ((result : Result Reply Refusal) (u : Timeline) → MatchBool may (IsMoved there result u) (IsRefused t refusal result u)
      → StepsAs want_cut t kind result u) → AnsweredAs want_cut t kind
  moved kind there refusal memory true has_there steps =
      let s = some-present there (has_there refl) in
      let is : IsMoved there (Ok (Value (value_of s.state))) there = record { state = s.state; present = s.present; told = refl; moves = refl } in
      record { result = Ok (Value (value_of s.state)); after = there; steps = steps _ _ is; memory = λ e. cc; has_states = has_there refl }
  moved kind there refusal memory false has_there steps =
      let is : IsRefused t refusal (Err refusal) t = record { told = refl; unchanged = refl } in
      record { result = Err refusal; after = t; steps = steps _ _ is; memory = λ e. memory (cc); has_states = has }

  -- Each kind of command has an answer.
  answered : (kind : Kind) → AnsweredAs want_cut t kind
  answered (Changing asked reply) =
      let s = some-present t has in changed asked reply s.state s.present s.is (change_fault s.state asked) refl
  answered Solving =
      let s = some-present t has in
      let made = laws.outcome s.state change.Solve s.is refl in
      let some = wanted made.after made.state want_cut in
      record {
        result = Ok (Solution some.0);
        after = appended t made.after;
        steps = (s.state, s.present, record { new = made.after; becomes = made.becomes; side = some.0; side_is = some.1; told = refl; appends = refl });
        memory = λ e. cc;
        has_states = HasStates-appended t made.after has made.state;
      }
  answered (GoingBack steps) =
      moved (GoingBack steps) (back t steps) NothingToUndo (λ e. cc) (nat_le steps t.place)
      (λ may. record { place = omega (arith, has.place); states = has.states }) (λ result u is. is)
  answered (GoingOn steps) =
      moved (GoingOn steps) (forward t steps) NothingToRedo (λ e. cc) (nat_le steps (future_of t))
      (λ may. record { place = omega (arith, has.place, leb-true steps (future_of t) may); states = has.states }) (λ result u is. is)
  answered (Telling reply) = record { result = Ok reply; after = t; steps = (refl, refl); memory = λ e. cc; has_states = has }
  answered TellingCut =
      let s = some-present t has in
      ⊎_elim
      (λ (greatest : IsGreatest s.state.network s.state.flows).
      let some = laws.side s.state.network s.is.network in
      record { result = Ok (Cut some.0); after = t; steps = ((s.state, s.present, (greatest, some.1)), refl); memory = λ e. cc; has_states = has })
      (λ (larger : IsSurpassed s.state.network s.state.flows).
      record { result = Err NotGreatest; after = t; steps = ((s.state, s.present, larger), refl); memory = λ e. cc; has_states = has })
      (laws.greatest s.state.network s.state.flows s.is.network s.is.flow)

-- Each command has an answer.
pub has-answer : NetworkLaws → HasAnswer
has-answer laws want_cut t command has =
    let a = answered laws want_cut t has (kind_of command) in
    record { result = a.result; after = a.after; steps = a.steps; memory = a.memory; has_states = a.has_states }
