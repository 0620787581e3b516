-- Texts of C's.
-- Public: a public contract says no more than this.
use Rattle.std.specs.Prelude.{ℕ, ◌≡◌, ◌≤◌, ◌⊎◌, List, ◌++◌, drop, length, nat_le, Option, Some, Result, Ok, Err, MatchBool}
use Rattle.dmf_state.specs.NetworkState.{NetworkState}
use Rattle.dmf_text.specs.declared.fault.ProblemFault.{ProblemFault}
use Rattle.dmf_history.specs.Timeline.{Timeline, start}
use Rattle.dmf_c.specs.FaultNumber.{fault_number}
use Rattle.dmf_c.specs.Status.{DMF_OK, DMF_NO_MEMORY, DMF_BAD_LENGTH, DMF_BAD_NUMBER, DMF_BAD_TEXT, DMF_MAX_PAST}

-- The answer about a text that has been read: its session, or the line and the number of its first fault.
abbrev pub ReadsResult : ℕ → Result NetworkState ProblemFault → ℕ → Option Timeline → ℕ → ℕ → Type 0
ReadsResult past (Ok s) code session line fault = (code ≡ DMF_OK) × (session ≡ Some (start past s))
ReadsResult past (Err found) code session line fault = (code ≡ DMF_BAD_TEXT) × (line ≡ found.line) × (fault ≡ fault_number found.kind)

-- The answer about a text: that the bound is too large, that memory was refused, or what the text is.
abbrev pub Reads : ℕ → Result NetworkState ProblemFault → ℕ → Option Timeline → ℕ → ℕ → Type 0
Reads past read code session line fault =
    MatchBool (nat_le past DMF_MAX_PAST) ((code ≡ DMF_NO_MEMORY) ⊎ ReadsResult past read code session line fault) (code ≡ DMF_BAD_NUMBER)

-- the number is one of `enum dmf_fault`
abbrev pub IsFault : ℕ → Type 0
IsFault fault = (1 ≤ fault) × (fault ≤ 17)

-- The array begins with the text if it is long enough; else it is refused. `size` is the length of the text.
abbrev pub GivesText : List ℕ → ℕ → List ℕ → List ℕ → ℕ → Type 0
GivesText text code before after size =
    (size ≡ length text)
    × MatchBool (nat_le (length text) (length before)) ((code ≡ DMF_OK) × (after ≡ text ++ drop (length text) before)) (code ≡ DMF_BAD_LENGTH)

-- Memory was refused, and the size is not told; or the array gets the text.
abbrev pub AnswersText : List ℕ → ℕ → List ℕ → List ℕ → ℕ → ℕ → Type 0
AnswersText text code before after size told =
    ((code ≡ DMF_NO_MEMORY) × (told ≡ size)) ⊎ GivesText text code before after told
