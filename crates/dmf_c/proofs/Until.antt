-- What follows from the number of the answer to a call that a flag may have ended.
use Rattle.std.proofs.Common.{ℕ, ◌≡◌, ◌≢◌, Bool, true, false, [], ◌∷◌, Result, Ok, Err, inl, inr, refl, sym, subst, ◌∙◌}
use Rattle.dmf_history.specs.Timeline.{Timeline}
use Rattle.dmf_session.specs.declared.command.Command.TheVariants.{Solve}
use Rattle.dmf_session.specs.declared.command.Reply.{Reply}
use Rattle.dmf_session.specs.declared.command.Refusal.{Refusal}
use Rattle.dmf_session.specs.declared.command.Refusal.TheVariants.{NoMemory}
use Rattle.dmf_session.specs.Step.{Answers}
use Rattle.dmf_c.specs.Codes.{AnswersUntil, Ends, OrEnded, until_code}
use Rattle.dmf_c.specs.Status.{IsOneOf, DMF_OK, DMF_NO_MEMORY, DMF_STOPPED}
use Rattle.dmf_c.proofs.Answered.{kept}

module _ (t u : Timeline) where
  -- The solve was answered, or ended.
  pub until-answers : (answer : Result Reply Refusal) (has_stopped : Bool) → Answers false t Solve answer u → AnswersUntil t (until_code answer has_stopped) u
  until-answers (Err NoMemory) true a = inl (refl, a.1)
  until-answers answer has_stopped a = inr (record { answer = answer; answers = a; code_is = refl })

  -- There are three numbers.
  pub until-among : (answer : Result Reply Refusal) (has_stopped : Bool) → Answers false t Solve answer u
      → IsOneOf (until_code answer has_stopped) (DMF_OK ∷ DMF_NO_MEMORY ∷ DMF_STOPPED ∷ [])
  until-among (Ok reply) has_stopped a = refl
  until-among (Err NoMemory) true a = refl
  until-among (Err NoMemory) false a = refl
  until-among (Err refusal) has_stopped a = absurd (let no : ⊥ = cc a.2.told in no)

  -- A number other than 0 says that nothing has changed.
  pub until-kept : (code : ℕ) → AnswersUntil t code u → code ≢ DMF_OK → u ≡ t
  until-kept code (inl ended) not_ok = ended.1
  until-kept code (inr answered) not_ok = kept t u Solve code answered not_ok

-- A call that a flag may have ended has one of the answers of the plain call, or was ended where memory would be refused.
pub ended-answer : (Answer : ℕ → Type 0) (plain code : ℕ) → Answer plain → Ends plain code → OrEnded Answer code
ended-answer Answer plain code answered (inl same) = inl (subst Answer (sym same) answered)
ended-answer Answer plain code answered (inr ended) = inr (subst Answer ended.0 answered, ended.1)

-- It has done all only if the plain call has.
pub ended-ok : (plain code : ℕ) → Ends plain code → code ≡ DMF_OK → plain ≡ DMF_OK
ended-ok plain code (inl same) ok = sym same ∙ ok
ended-ok plain code (inr ended) ok = absurd (let no : ⊥ = cc (ended.1, ok) in no)

-- It is refused only if the plain call is.
pub ended-refused : (plain code : ℕ) → Ends plain code → code ≢ DMF_OK → plain ≢ DMF_OK
ended-refused plain code (inl same) not_ok ok = not_ok (same ∙ ok)
ended-refused plain code (inr ended) not_ok ok = absurd (let no : ⊥ = cc (ended.0, ok) in no)
