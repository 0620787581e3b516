use Rattle.std.proofs.Common.{◌≡◌, ◌≢◌, ◌⊎◌, ℕ, List, Ok, Err, inl, inr, sym, ap, ◌∙◌}
use Rattle.std.proofs.lemmas.Result.{err_from_is_err_and}
use Rattle.std.specs.Result.{IsErrOf}
use Rattle.dmf_state.specs.NetworkState.{NetworkState}
use Rattle.dmf_text.specs.declared.fault.ProblemFault.{ProblemFault}
use Rattle.dmf_text.specs.declared.fault.ProblemFaultKind.TheVariants.{NoMemory}
use Rattle.dmf_text.specs.Problem.{problem_of, out_of_memory}
use Rattle.dmf_streams.specs.declared.fault.EngineFault.{EngineFault}
use Rattle.dmf_streams.specs.declared.fault.EngineFault.TheVariants as fault
use Rattle.dmf_text.specs.Streams.{Reader}
use Rattle.dmf_streams.specs.Reading.{ReadsProblem}
use Rattle.dmf_streams.specs.WholeText.{ReadsText}
use Rattle.dmf_streams.proofs.Giving.{given}
use Rattle.dmf_streams.proofs.problem.read_state.Goals as goal

-- the text is read, but not judged
unread : (from to : Reader) (text : List ℕ) (told : EngineFault) → ReadsText from to text (Err told) → ReadsProblem from to text (Err told)
unread from to text fault.Read r = r
unread from to text fault.NoMemory r = r
unread from to text fault.TooMuchInput r = r
unread from to text told r = absurd r

-- the judgement of the text, if no memory is refused
judged-state : (s : NetworkState) (text : List ℕ) → IsErrOf (Ok s) out_of_memory ⊎ (Ok s ≡ problem_of text) → problem_of text ≡ Ok s
judged-state s text (inl refused) = cc
judged-state s text (inr told) = sym told

judged-fault : (f : ProblemFault) (text : List ℕ) → f.kind ≢ NoMemory → IsErrOf {T = NetworkState} (Err f) out_of_memory ⊎ (Err f ≡ problem_of text)
    → problem_of text ≡ Err f
judged-fault f text other (inl refused) = let same : f ≡ out_of_memory = cc in absurd (other (ap (λ x. x.kind) same))
judged-fault f text other (inr told) = sym told

pub returns-in_err-text : goal.returns-in_err-text
returns-in_err-text g c =
    let failed = err_from_is_err_and c.from_residual.result c.from_residual.ensures.1 in
    rw (failed.1, failed.2) (given c.in_err-text.ensures (λ text read. unread _ _ text c.in_err-text.field-0.0 read))

pub returns-in-Ok : goal.returns-in-Ok
returns-in-Ok g c =
    given c.in_ok-text.ensures (λ text read. (
      read.0,
      ap problem_of (sym (c.deref.ensures.value ∙ read.1)) ∙ judged-state c.in-Ok.state c.deref.result.now c.in-Ok.ensures,
    ))

pub returns-in-NoMemory : goal.returns-in-NoMemory
returns-in-NoMemory g c = given c.in_ok-text.ensures (λ text read. read.0.mark)

pub returns : goal.returns
returns g c =
    given c.in_ok-text.ensures (λ text read. (
      read.0,
      ap problem_of (sym (c.deref.ensures.value ∙ read.1)) ∙ judged-fault c.in-Err.fault c.deref.result.now c.in_default.not-NoMemory c.in-Err.ensures,
    ))
