-- What a run takes from a reader of command lines, byte by byte.
-- Private: only contracts inside the crate and proofs use this.
use Rattle.std.specs.Prelude.{◌^◌, ℕ, ◌≡◌, ◌≢◌, ◌+◌, ◌<◌, ◌≤◌, List, [], ◌∷◌, ◌++◌, length, All, Bool, true, false}
use Rattle.std.specs.Prelude.{if◌then◌else◌, Option, Some, None, Result, Ok, Err}
use Rattle.std.specs.Io.KnownBytes.{prepend_known, Consumes, IsAtEnd}
use Rattle.dmf_streams.specs.declared.input.Next.{Next}
use Rattle.dmf_streams.specs.declared.input.Next.TheVariants.{Line, End}
use Rattle.dmf_streams.specs.declared.fault.EngineFault.{EngineFault}
use Rattle.dmf_streams.specs.declared.fault.EngineFault.TheVariants as fault
use Rattle.dmf_text.specs.Streams.{Reader}
use Rattle.dmf_streams.specs.Pending.{Pending}
use Rattle.dmf_streams.specs.KeptLine.{Kept, IsKept}

-- No byte is a line feed.
abbrev pub HasNoLineFeed : List ℕ → Type 0
HasNoLineFeed bytes = All (λ b. b ≢ 10) bytes

-- the bytes that are left: the pending ones, and then those that the reader has left, where they are known
abbrev pub left : Pending → Option (List ℕ) → Option (List ℕ)
left pending known = prepend_known pending.bytes known

-- an input and the reader that it takes bytes from
pub record InputState : Type 0 where
  pub pending : Pending
  pub reader : Reader

-- the input with these pending bytes, over this reader
abbrev pub input_over : Pending → Reader → InputState
input_over pending reader = record { pending = pending; reader = reader }

-- These bytes were taken.
pub record TakesBytes (old new : InputState) (bytes : List ℕ) : Type 0 where
  pub consumes : Consumes (left old.pending old.reader.known) (left new.pending new.reader.known) bytes
  pub counts : new.pending.count ≡ old.pending.count + length bytes

-- Nothing is left, at most 2^30 bytes were taken, and no read failed.
pub record HasEnded (old new : InputState) : Type 0 where
  pub none_pending : new.pending.bytes ≡ []
  pub at_end : IsAtEnd new.reader.known
  pub within : new.pending.count ≤ 2 ^ 30
  pub mark : new.reader.has_failed ≡ old.reader.has_failed

-- A read failed, and no byte is pending.
pub record HasFailed (new : InputState) : Type 0 where
  pub none_pending : new.pending.bytes ≡ []
  pub mark : new.reader.has_failed ≡ true

-- 2^30 bytes were taken, and one more is there.
pub record IsPastLimit (old new : InputState) : Type 0 where
  pub at_limit : new.pending.count ≡ 2 ^ 30
  pub pending : 0 < length new.pending.bytes
  pub mark : new.reader.has_failed ≡ old.reader.has_failed

-- what a read of the next piece does, if no byte is pending; no other results are possible
abbrev pub ReadsPiece : InputState → InputState → Result (Unit {0}) EngineFault → Type 0
ReadsPiece old new (Ok done) =
    TakesBytes old new [] × (new.reader.has_failed ≡ old.reader.has_failed) × (new.pending.bytes ≡ [] → IsAtEnd new.reader.known)
ReadsPiece old new (Err fault.Read) = TakesBytes old new [] × HasFailed new
ReadsPiece old new (Err fault) = ⊥

-- what a request for the next byte does; no other results are possible
abbrev pub GivesByte : InputState → InputState → Result (Option ℕ) EngineFault → Type 0
GivesByte old new (Ok (Some byte)) =
    TakesBytes old new (byte ∷ []) × (new.reader.has_failed ≡ old.reader.has_failed) × (new.pending.count ≤ 2 ^ 30)
GivesByte old new (Ok None) = TakesBytes old new [] × HasEnded old new
GivesByte old new (Err fault.Read) = TakesBytes old new [] × HasFailed new
GivesByte old new (Err fault.TooMuchInput) = TakesBytes old new [] × IsPastLimit old new
GivesByte old new (Err fault) = ⊥

-- A line was taken, of which the buffer keeps this. A line feed ended it, or the end of the input ended a last line.
pub record TakesLine (old new : InputState) (kept : Kept) (ended : Bool) : Type 0 where
  pub line : List ℕ
  pub no_line_feed : HasNoLineFeed line
  pub takes : TakesBytes old new (if ended then line ++ 10 ∷ [] else line)
  pub keeps : IsKept kept line
  pub mark : new.reader.has_failed ≡ old.reader.has_failed
  pub last : ended ≡ false → (0 < length line) × HasEnded old new

-- what a request for the next line does, of which the buffer keeps this: a line, or the end
abbrev pub GivesLine : InputState → InputState → Kept → Result Next EngineFault → Type 0
GivesLine old new kept (Ok (Line ended)) = TakesLine old new kept ended
GivesLine old new kept (Ok End) = TakesBytes old new [] × HasEnded old new
GivesLine old new kept (Err fault.Read) =
    (rest : List ℕ) × HasNoLineFeed rest × TakesBytes old new rest × HasFailed new
GivesLine old new kept (Err fault.TooMuchInput) =
    (rest : List ℕ) × HasNoLineFeed rest × TakesBytes old new rest × IsPastLimit old new
GivesLine old new kept (Err fault) = ⊥

-- what a request for the end does: nothing is left, or there is one more byte
abbrev pub GivesEnd : InputState → InputState → Result (Unit {0}) EngineFault → Type 0
GivesEnd old new (Ok done) = TakesBytes old new [] × HasEnded old new
GivesEnd old new (Err fault.Read) = TakesBytes old new [] × HasFailed new
GivesEnd old new (Err fault.TooMuchInput) =
    (bytes : List ℕ) × (0 < length (bytes ++ new.pending.bytes)) × TakesBytes old new bytes
    × (new.pending.count ≤ 2 ^ 30) × (new.reader.has_failed ≡ old.reader.has_failed)
GivesEnd old new (Err fault) = ⊥
