-- What opening a session on a state answers, or copying one.
-- Public: a public contract says no more than this.
use Rattle.std.specs.Prelude.{ℕ, ◌≡◌, ◌⊎◌, Option, Some}
use Rattle.dmf_history.specs.Timeline.{Timeline}
use Rattle.dmf_c.specs.Status.{DMF_OK, DMF_NO_MEMORY}

-- C has a session with this timeline, or memory was refused.
abbrev pub Starts : Timeline → ℕ → Option Timeline → Type 0
Starts t code session = (code ≡ DMF_NO_MEMORY) ⊎ ((code ≡ DMF_OK) × (session ≡ Some t))
