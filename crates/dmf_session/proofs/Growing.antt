-- By how much a step lengthens a timeline.
use Rattle.std.proofs.Common.{◌≡◌, ◌+◌, ◌<◌, ◌≤◌, List, length, take, Bool, true, false, Option, Some, None, Result, Ok, nat_le, refl, sym}
use Rattle.std.proofs.Common.{subst, arith}
use Rattle.std.specs.Bool.{MatchBool}
use Rattle.std.specs.Option.{MatchOption}
use Rattle.std.proofs.lemmas.Bool.{leb-true}
use Rattle.std.proofs.lemmas.List.{length_push, length-take-le, length-drop}
use Rattle.dmf_state.specs.NetworkState.{NetworkState}
use Rattle.dmf_solver.specs.declared.fault.PlanFault.{PlanFault}
use Rattle.dmf_solver.specs.Change.{Change, change_fault}
use Rattle.dmf_session.specs.declared.command.Command.{Command}
use Rattle.dmf_session.specs.declared.command.Reply.{Reply}
use Rattle.dmf_session.specs.declared.command.Refusal.{Refusal}
use Rattle.dmf_session.specs.declared.command.Refusal.TheVariants.{NothingToUndo, NothingToRedo}
use Rattle.dmf_history.specs.Timeline.{Timeline, future_of, extended, appended, back, forward}
use Rattle.dmf_session.specs.Step.{Kind, Changing, Solving, GoingBack, GoingOn, Telling, TellingCut, kind_of, StepsAs, Steps, Answers, Adds, IsChange}
use Rattle.dmf_session.specs.Step.{IsChanged, IsRefused, IsMoved, refusal_of}
use Rattle.dmf_history.proofs.Appending.{within_bound-keeps}

-- The place is in the list, the list has at most one more state than before, and the bound is the same.
pub record Grows (t u : Timeline) : Type 0 where
  pub place : u.place < length u.states
  pub at_most : length u.states ≤ length t.states + 1
  pub bound : u.bound ≡ t.bound

-- A timeline that stays has grown by none.
pub same : (t u : Timeline) → t.place < length t.states → u ≡ t → Grows t u
same t u within e = rw e (record { place = within; at_most = omega arith; bound = refl })

-- With one state appended it has grown by one.
appended-grows : (t u : Timeline) (s : NetworkState) → t.place < length t.states → u ≡ appended t s → Grows t u
appended-grows t u s within e =
    let front : List NetworkState = take (t.place + 1) t.states in
    let long : length front ≡ t.place + 1 = length-take-le (t.place + 1) t.states (omega arith) in
    let fewer = length-drop 1 (extended t s).states in
    subst (λ v. Grows t v) (sym e)
    (within_bound-keeps (λ v. Grows t v) (extended t s)
    (record { place = omega (arith, length_push front s, long); at_most = omega (arith, length_push front s, long); bound = refl })
    (λ past. record { place = omega (arith, length_push front s, long, fewer); at_most = omega (arith, length_push front s, long, fewer); bound = refl }))

-- An answer to a change grows it by at most one,
change-grows : (t u : Timeline) (s : NetworkState) (made : Change) (reply : NetworkState → Reply) (result : Result Reply Refusal)
    (fault : Option PlanFault) → t.place < length t.states
    → MatchOption fault (IsChanged t s made reply result u) (λ f. IsRefused t (refusal_of f) result u) → Grows t u
change-grows t u s made reply result None within m = appended-grows t u m.new within m.appends
change-grows t u s made reply result (Some f) within m = same t u within m.unchanged

-- and one to a step back or forward as its move does, or by none.
move-grows : (t u moved : Timeline) (refusal : Refusal) (result : Result Reply Refusal) (may : Bool) → t.place < length t.states
    → (may ≡ true → Grows t moved) → MatchBool may (IsMoved moved result u) (IsRefused t refusal result u) → Grows t u
move-grows t u moved refusal result true within grows m = rw m.moves (grows refl)
move-grows t u moved refusal result false within grows m = same t u within m.unchanged

-- So does each kind of command:
kind-grows : (want_cut : Bool) (t u : Timeline) (kind : Kind) (result : Result Reply Refusal) → t.place < length t.states
    → StepsAs want_cut t kind result u → Grows t u
kind-grows _ t u (Changing asked reply) result within s = change-grows t u s.0 asked reply result (change_fault s.0 asked) within s.2
kind-grows want_cut t u Solving result within s = appended-grows t u s.2.new within s.2.appends
kind-grows want_cut t u (GoingBack steps) result within s =
    move-grows t u (back t steps) NothingToUndo result (nat_le steps t.place) within
    (λ may. record { place = omega arith; at_most = omega arith; bound = refl }) s
kind-grows want_cut t u (GoingOn steps) result within s =
    move-grows t u (forward t steps) NothingToRedo result (nat_le steps (future_of t)) within
    (λ may. record { place = omega (arith, leb-true steps (future_of t) may); at_most = omega arith; bound = refl }) s
kind-grows want_cut t u (Telling reply) result within s = same t u within s.1
kind-grows want_cut t u TellingCut result within s = same t u within s.1

-- a command appends at most one state,
pub steps-grow : (want_cut : Bool) (t u : Timeline) (command : Command) (result : Result Reply Refusal) → t.place < length t.states
    → Steps want_cut t command result u → Grows t u
steps-grow want_cut t u command result within s = kind-grows want_cut t u (kind_of command) result within s

change-by : (t u : Timeline) (s : NetworkState) (asked : Change) (told : NetworkState → Reply) (reply : Reply) (fault : Option PlanFault)
    → MatchOption fault (IsChanged t s asked told (Ok reply) u) (λ f. IsRefused t (refusal_of f) (Ok reply) u) → (new : NetworkState) × (u ≡ appended t new)
change-by t u s asked told reply None m = (m.new, m.appends)
change-by t u s asked told reply (Some f) m = let refused = m.told in absurd (cc)

kind-appends : (want_cut : Bool) (t u : Timeline) (kind : Kind) (reply : Reply) → Adds kind → StepsAs want_cut t kind (Ok reply) u
    → (new : NetworkState) × (u ≡ appended t new)
kind-appends _ t u (Changing asked told) reply is a = change-by t u a.0 asked told reply (change_fault a.0 asked) a.2
kind-appends want_cut t u Solving reply is a = (a.2.new, a.2.appends)
kind-appends want_cut t u kind reply is a = absurd is

-- and an accepted change just one.
pub change-appends : (want_cut : Bool) (t u : Timeline) (command : Command) (reply : Reply) → IsChange command → Answers want_cut t command (Ok reply) u
    → (new : NetworkState) × (u ≡ appended t new)
change-appends want_cut t u command reply is a = kind-appends want_cut t u (kind_of command) reply is a
