-- What a reader gave: a text that was read whole and judged.
-- Public: a public contract says no more than this.
use Rattle.std.specs.Prelude.{◌^◌, ℕ, ◌≡◌, ◌<◌, ◌≤◌, List, length, true, Option, Some, None, Result, Ok, Err}
use Rattle.std.specs.Io.KnownBytes.{Consumes, IsAtEnd}
use Rattle.dmf_state.specs.NetworkState.{NetworkState}
use Rattle.dmf_text.specs.declared.fault.ProblemFault.{ProblemFault}
use Rattle.dmf_text.specs.Problem.{problem_of}
use Rattle.dmf_streams.specs.declared.fault.EngineFault.{EngineFault}
use Rattle.dmf_streams.specs.declared.fault.EngineFault.TheVariants as fault
use Rattle.dmf_text.specs.Streams.{Reader}

-- This text was given, it is the whole of what the reader had left, and it is within the limit.
pub record GaveWhole (old new : Reader) (text : List ℕ) : Type 0 where
  pub at_end : IsAtEnd new.known
  pub within : length text ≤ 2 ^ 30
  pub mark : new.has_failed ≡ old.has_failed

-- More was given than may be.
pub record GaveTooMuch (old new : Reader) (text : List ℕ) : Type 0 where
  pub past : 2 ^ 30 < length text
  pub mark : new.has_failed ≡ old.has_failed

-- The reader gave this text, of which that is so.
pub record HasGiven (old new : Reader) (IsSo : List ℕ → Type 0) : Type 0 where
  pub text : List ℕ
  pub consumes : Consumes old.known new.known text
  pub is_so : IsSo text

-- ---- a text that is read whole and judged

-- The text was read whole, and the judge finds this fault, if there is one; nothing is so where there is none.
abbrev pub FindsFault : {Fault : Type 0} → (List ℕ → Result NetworkState Fault) → Reader → Reader → List ℕ → Option Fault → Type 0
FindsFault judge old new text None = ⊥
FindsFault judge old new text (Some found) = GaveWhole old new text × (judge text ≡ Err found)

-- What reading a text gives that a judge turns into a state, of which this much was given; no answer but these is given.
-- `found_in` is the fault of the text that an answer tells.
abbrev pub Reads : {Fault : Type 0} → (List ℕ → Result NetworkState Fault) → (EngineFault → Option Fault) → Reader → Reader → List ℕ
    → Result NetworkState EngineFault → Type 0
Reads judge found_in old new text (Ok s) = GaveWhole old new text × (judge text ≡ Ok s)
Reads judge found_in old new text (Err fault.Read) = new.has_failed ≡ true
Reads judge found_in old new text (Err fault.TooMuchInput) = GaveTooMuch old new text
Reads judge found_in old new text (Err fault.NoMemory) = new.has_failed ≡ old.has_failed
Reads judge found_in old new text (Err told) = FindsFault judge old new text (found_in told)

abbrev pub problem_fault_in : EngineFault → Option ProblemFault
problem_fault_in (fault.Problem found) = Some found
problem_fault_in other = None

-- what reading a problem gives
abbrev pub ReadsProblem : Reader → Reader → List ℕ → Result NetworkState EngineFault → Type 0
ReadsProblem old new text result = Reads problem_of problem_fault_in old new text result
