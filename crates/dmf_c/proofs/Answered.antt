-- What follows from the number of an answer to a command.
use Rattle.std.proofs.Common.{ℕ, ◌≡◌, ◌≢◌, Bool, true, false, Option, Some, None, Result, Ok, Err, nat_le}
use Rattle.std.proofs.Common.{refl, subst, arith}
use Rattle.std.specs.Bool.{MatchBool}
use Rattle.std.specs.Option.{MatchOption}
use Rattle.dmf_state.specs.NetworkState.{NetworkState}
use Rattle.dmf_solver.specs.declared.fault.PlanFault.{PlanFault}
use Rattle.dmf_solver.specs.Change.{Change, change_fault}
use Rattle.dmf_solver.specs.Change as change
use Rattle.dmf_history.specs.Timeline.{Timeline, IsPresent, future_of, back, forward}
use Rattle.dmf_session.specs.declared.command.Command.TheVariants.{Add}
use Rattle.dmf_session.specs.declared.command.Command.{Command}
use Rattle.dmf_session.specs.declared.command.Reply.{Reply}
use Rattle.dmf_session.specs.declared.command.Refusal.{Refusal}
use Rattle.dmf_session.specs.declared.command.Refusal.TheVariants.{NothingToUndo, NothingToRedo, NoMemory}
use Rattle.dmf_session.specs.Step.{Kind, Changing, Solving, GoingBack, GoingOn, Telling, TellingCut, kind_of, StepsAs, Answers}
use Rattle.dmf_session.specs.Step.{IsChanged, IsRefused, IsMoved, refusal_of, added}
use Rattle.dmf_session.proofs.Optimal.{present-appended}
use Rattle.dmf_c.specs.Codes.{refusal_code, answer_code, AnswersCode, AddsLast}
use Rattle.dmf_c.specs.Status.{DMF_OK}

-- ---- a refused command has changed nothing

module _ (t u : Timeline) (refusal : Refusal) where
  change-kept : (s : NetworkState) (asked : Change) (reply : NetworkState → Reply) (fault : Option PlanFault)
      → MatchOption fault (IsChanged t s asked reply (Err refusal) u) (λ f. IsRefused t (refusal_of f) (Err refusal) u) → u ≡ t
  change-kept s asked reply None m = absurd (let no : ⊥ = cc m.told in no)
  change-kept s asked reply (Some f) m = m.unchanged

  move-kept : (there : Timeline) (none : Refusal) (may : Bool) → MatchBool may (IsMoved there (Err refusal) u) (IsRefused t none (Err refusal) u) → u ≡ t
  move-kept there none true m = absurd (let no : ⊥ = cc m.told in no)
  move-kept there none false m = m.unchanged

  kind-kept : (kind : Kind) → StepsAs false t kind (Err refusal) u → u ≡ t
  kind-kept (Changing asked reply) a = change-kept a.0 asked reply (change_fault a.0 asked) a.2
  kind-kept Solving a = absurd (let no : ⊥ = cc a.2.told in no)
  kind-kept (GoingBack steps) a = move-kept (back t steps) NothingToUndo (nat_le steps t.place) a
  kind-kept (GoingOn steps) a = move-kept (forward t steps) NothingToRedo (nat_le steps (future_of t)) a
  kind-kept (Telling reply) a = a.1
  kind-kept TellingCut a = a.1

answer-kept : (t u : Timeline) (command : Command) (answer : Result Reply Refusal) → Answers false t command answer u → answer_code answer ≢ DMF_OK → u ≡ t
answer-kept t u command (Ok reply) a not_ok = absurd (not_ok refl)
answer-kept t u command (Err NoMemory) a not_ok = a.1
answer-kept t u command (Err refusal) a not_ok = kind-kept t u refusal (kind_of command) a

-- A number other than 0 says that nothing has changed.
pub kept : (t u : Timeline) (command : Command) (code : ℕ) → AnswersCode t command code u → code ≢ DMF_OK → u ≡ t
kept t u command code a not_ok = answer-kept t u command a.answer a.answers (subst (λ n. n ≢ DMF_OK) a.code_is not_ok)

-- ---- an arc that is added

added-last : (t u : Timeline) (s : NetworkState) (tail head cap : ℕ) (reply : Reply) (fault : Option PlanFault) → IsPresent t s
    → MatchOption fault (IsChanged t s (change.Add tail head cap) added (Ok reply) u) (λ f. IsRefused t (refusal_of f) (Ok reply) u)
    → AddsLast t tail head cap u
added-last t u s tail head cap reply None present m =
    record {
      state = s;
      before = present;
      after = subst (λ (new : NetworkState). IsPresent u new) m.becomes (present-appended t u s m.new present m.appends);
    }
added-last t u s tail head cap reply (Some f) present m = absurd (let no : ⊥ = cc m.told in no)

-- No refusal has the number 0.
pub no-zero : (refusal : Refusal) → refusal_code refusal ≢ DMF_OK
no-zero NoMemory e = omega arith
no-zero refusal e = omega arith

answer-last : (t u : Timeline) (tail head cap : ℕ) (answer : Result Reply Refusal) → Answers false t (Add tail head cap) answer u → answer_code answer ≡ DMF_OK
    → AddsLast t tail head cap u
answer-last t u tail head cap (Ok reply) a ok = added-last t u a.0 tail head cap reply (change_fault a.0 (change.Add tail head cap)) a.1 a.2
answer-last t u tail head cap (Err refusal) a ok = absurd (no-zero refusal ok)

-- After 0 the network has the arc as its last.
pub adds-last : (t u : Timeline) (tail head cap code : ℕ) → AnswersCode t (Add tail head cap) code u → code ≡ DMF_OK → AddsLast t tail head cap u
adds-last t u tail head cap code a ok = answer-last t u tail head cap a.answer a.answers (subst (λ n. n ≡ DMF_OK) a.code_is ok)
