-- The present state of a timeline that has states, and the timeline after a change is appended.
use Rattle.std.proofs.Common.{ℕ, ◌≡◌, length, Option, Some, None, Result, Ok, Err, MatchOption, IsOkUnless, pos, nat_abs, arith, refl, ap, ◌∙◌, subst, ⊎_elim}
use Rattle.std.proofs.lemmas.List.Elements.{All-get_or}
use Rattle.std.proofs.lemmas.Option.{slice_get_cases}
use Rattle.dmf_state.specs.declared.edit.Edit.{Edit}
use Rattle.dmf_solver.specs.declared.fault.PlanFault.{PlanFault}
use Rattle.dmf_solver.specs.declared.fault.PlanFault.TheVariants.{NoMemory}
use Rattle.dmf_state.specs.Flow.{flow_value}
use Rattle.dmf_state.specs.NetworkState.{NetworkState, IsState}
use Rattle.dmf_solver.specs.Change.{Change, change_fault, Becomes}
use Rattle.dmf_state.specs.Edit.{applied}
use Rattle.dmf_session.specs.declared.command.Reply.{Reply}
use Rattle.dmf_session.specs.declared.command.Reply.TheVariants.{Value, Added}
use Rattle.dmf_session.specs.AppendedEdit.{AnswersAppended}
use Rattle.dmf_session.specs.declared.command.Refusal.{Refusal}
use Rattle.dmf_session.specs.declared.command.Refusal.TheVariants as refusal
use Rattle.dmf_history.specs.Timeline.{Timeline, IsPresent, Appends}
use Rattle.dmf_session.specs.Step.{Changes, IsAccepted, IsChanged, value_of}
use Rattle.dmf_session.specs.Laws.{HasStates}
use Rattle.dmf_history.proofs.Appending.{one-present, now-present, appends-applied}

-- the state at the place
pub record SomePresent (t : Timeline) : Type 0 where
  pub state : NetworkState
  pub present : IsPresent t state
  pub is : IsState state

-- If the place is in the list, there is a present state.
pub some-present : (t : Timeline) → HasStates t → SomePresent t
some-present t has = ⊎_elim
    (λ found. record { state = found.0; present = found.2; is = subst IsState found.3 (All-get_or IsState t.states t.place found.0 found.1 has.states) })
    (λ past. absurd (omega (arith, past.0, has.place)))
    (slice_get_cases t.states t.place).1

-- The present state of a timeline that has states is a state.
pub is-state : (t : Timeline) (s : NetworkState) → HasStates t → IsPresent t s → IsState s
is-state t s has present = let some = some-present t has in subst IsState (one-present t some.state s some.present present) some.is

-- A change was planned on the present state and appended, and the reply has the value of the new present state.
IsChanged-told : (t u : Timeline) (s p : NetworkState) (edit : Edit) (change : Change) (reply : NetworkState → Reply) (told : Reply) → IsPresent t s
    → Becomes s change (applied edit s) → Appends edit t u → IsPresent u p → told ≡ reply p → IsChanged t s change reply (Ok told) u
IsChanged-told t u s p edit change reply told present becomes appends shown tells =
    record {
      new = applied edit s;
      becomes = becomes;
      told = ap (λ r. Ok r) (tells ∙ ap reply (now-present t u s p edit present appends shown));
      appends = appends-applied t u s edit present appends;
    }

-- an added arc, which was planned on the present state and appended
pub IsChanged-added : (t u : Timeline) (s p : NetworkState) (edit : Edit) (change : Change) (count value : ℕ) → IsPresent t s
    → Becomes s change (applied edit s) → Appends edit t u → IsPresent u p → count ≡ length p.network.arcs → pos value ≡ flow_value p.network p.flows
    → IsChanged t s change (λ new. Added (length new.network.arcs) (value_of new)) (Ok (Added count value)) u
IsChanged-added t u s p edit change count value present becomes appends shown counts valued =
    IsChanged-told t u s p edit change (λ new. Added (length new.network.arcs) (value_of new)) (Added count value) present becomes appends shown
    (ap (λ n. Added n value) counts ∙ ap (λ n. Added (length p.network.arcs) n) (ap nat_abs valued))

-- if a plan was made, nothing refuses the change
no-fault : (edit : Edit) (fault : Option PlanFault) → MatchOption fault (IsOkUnless (Ok edit) NoMemory) (λ f. Ok edit ≡ Err f) → fault ≡ None
no-fault edit None planned = refl
no-fault edit (Some f) planned = absurd (cc)

-- A change was planned on the present state, unless memory was refused, and its edit was appended. Then a command that asks for it has
-- its answer.
pub answers-appended : (t u : Timeline) (s : NetworkState) (edit : Edit) (change : Change)
    (IsAnswer : Timeline → Result Reply Refusal → Timeline → Type 0) (result : Result Reply Refusal) → IsPresent t s
    → MatchOption (change_fault s change) (IsOkUnless (Ok edit) NoMemory) (λ f. Ok edit ≡ Err f) → Becomes s change (applied edit s)
    → AnswersAppended edit t result u
    → ((value : ℕ) → (s : NetworkState) × IsPresent t s × Changes t s change (λ new. Value (value_of new)) (Ok (Value value)) u
    → IsAnswer t (Ok (Value value)) u)
    → (IsAccepted t change × (u ≡ t) → IsAnswer t (Err refusal.NoMemory) u) → IsAnswer t result u
answers-appended t u s edit change IsAnswer (Ok (Value value)) present planned becomes a answered refused =
    let none = no-fault edit (change_fault s change) planned in
    let changed = IsChanged-told t u s a.state edit change (λ new. Value (value_of new)) (Value value) present becomes a.appends a.present
    (ap (λ n. Value n) (ap nat_abs a.value_is)) in
    answered value (s, present, rw none changed)
answers-appended t u s edit change IsAnswer (Err refusal.NoMemory) present planned becomes a answered refused =
    refused ((s, present, no-fault edit (change_fault s change) planned), a)
answers-appended t u s edit change IsAnswer result present planned becomes a answered refused = absurd a
