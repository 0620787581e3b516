-- What a reader gave, when more is known about it.
use Rattle.std.proofs.Common.{ℕ, List}
use Rattle.dmf_text.specs.Streams.{Reader}
use Rattle.dmf_streams.specs.Reading.{HasGiven}

-- What a reader gave has what follows of it.
pub given : {old new : Reader} {Was Is : List ℕ → Type 0} → HasGiven old new Was → ((text : List ℕ) → Was text → Is text) → HasGiven old new Is
given read then = record { text = read.text; consumes = read.consumes; is_so = then read.text read.is_so }
