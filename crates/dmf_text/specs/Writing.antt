-- What it means to put a text into a sink.
-- Public: a public contract says no more than this.
use Rattle.std.specs.Prelude.{ℕ, ◌≡◌, List, ◌++◌, true, Result, MatchResult}
use Rattle.std.specs.Io.KnownBytes.{Appends}
use Rattle.dmf_text.specs.Streams.{Writer}

-- A call put `text` into a sink, which was `old` before and `new` after. On success the sink got the whole text, and the mark is as
-- before. On failure it got a prefix of the text, and the mark stands.
abbrev pub Writes : {V E : Type 0} → Writer → Writer → Result V E → List ℕ → Type 0
Writes old new outcome text =
    MatchResult outcome (λ _. Appends old.contents new.contents text × (new.has_failed ≡ old.has_failed))
    (λ _. (front rest : List ℕ) × (text ≡ front ++ rest) × Appends old.contents new.contents front × (new.has_failed ≡ true))
