use Rattle.std.proofs.Common.{◌≡◌, ℕ, List, Option, Result, Ok, Err, MatchResult}
use Rattle.std.specs.Io.KnownBytes.{ReadConsumes}
use Rattle.std.specs.Result.{IsErr}
use Rattle.dmf_text.proofs.reader.StdSourceSource.read.Goals as goal

-- every error says the same about the bytes, whatever its reason
without-reason : {E F : Type 0} (before after : Option (List ℕ)) (buffer : List ℕ) (answer : Result ℕ E) (given : Result ℕ F)
    → MatchResult answer (λ value. given ≡ Ok value) (λ _. IsErr given) → ReadConsumes before after answer buffer → ReadConsumes before after given buffer
without-reason before after buffer (Ok n) given is consumed = rw is consumed
without-reason before after buffer (Err e) (Ok n) is kept = absurd (let no : ⊥ = cc in no)
without-reason before after buffer (Err e) (Err f) is kept = kept

pub returns-clause-bytes : goal.returns-clause-bytes
returns-clause-bytes g c = without-reason _ _ c.read.new.buf c.read.result c.without_reason-given.result c.without_reason-given.ensures c.read.ensures.bytes
