-- Texts that are put and then flushed.
use Rattle.std.proofs.Common.{◌≡◌, ℕ, List, [], Option, Some, None, Result, append-nil, sym, ◌∙◌}
use Rattle.std.specs.Io.KnownBytes.{Appends, Keeps}
use Rattle.dmf_text.specs.Streams.{Writer}
use Rattle.dmf_text.specs.Writing.{Writes}
use Rattle.dmf_text.proofs.WritingLemmas.{first-put}

-- A text was put, and the writer flushed.
pub Writes-flushed : {V E : Type 0} (a b c : Writer) (outcome : Result V E) (text : List ℕ) → Appends a.contents b.contents text × (b.has_failed ≡ a.has_failed)
    → Writes b c outcome [] → Writes a c outcome text
Writes-flushed a b c outcome text put then = first-put a b c outcome text text [] (sym (append-nil text)) put then

-- A writer that holds the same bytes as before took none.
pub Appends-kept : (a b : Option (List ℕ)) → Keeps a b → Appends a b []
Appends-kept None b kept = tt
Appends-kept (Some x) None kept = absurd kept
Appends-kept (Some x) (Some y) kept = kept ∙ sym (append-nil x)
