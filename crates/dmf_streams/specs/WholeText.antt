-- The result of reading a whole text, before it is judged.
-- Private: only contracts inside the crate and proofs use this.
use Rattle.std.specs.Prelude.{ℕ, ◌≡◌, List, true, Result, Ok, Err}
use Rattle.dmf_streams.specs.declared.fault.EngineFault.{EngineFault}
use Rattle.dmf_streams.specs.declared.fault.EngineFault.TheVariants as fault
use Rattle.dmf_text.specs.Streams.{Reader}
use Rattle.dmf_streams.specs.Reading.{GaveWhole, GaveTooMuch}

-- the result of reading a whole text, where the reader gave this much; no other results are possible
abbrev pub ReadsText : Reader → Reader → List ℕ → Result (List ℕ) EngineFault → Type 0
ReadsText old new text (Ok whole) = GaveWhole old new text × (whole ≡ text)
ReadsText old new text (Err fault.Read) = new.has_failed ≡ true
ReadsText old new text (Err fault.TooMuchInput) = GaveTooMuch old new text
ReadsText old new text (Err fault.NoMemory) = new.has_failed ≡ old.has_failed
ReadsText old new text (Err fault) = ⊥
