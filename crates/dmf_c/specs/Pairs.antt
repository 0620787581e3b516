-- What C gets of chosen pairs of arcs.
-- Public: a public contract says no more than this.
use Rattle.std.specs.Prelude.{ℕ, ◌≡◌, ◌<◌, ◌==◌, ◌&&◌, List, length, slice_index, MatchBool}
use Rattle.dmf_state.specs.Network.{Network}
use Rattle.dmf_state.specs.NetworkState.{NetworkState}
use Rattle.dmf_vital.specs.Loss.{IsLossOfPair}
use Rattle.dmf_c.specs.Losses.{TellsLosses, are_arcs}
use Rattle.dmf_c.specs.Status.{DMF_NO_SUCH_ARC, DMF_BAD_LENGTH}

-- The array has what is lost without each pair: at index `k`, how much less the greatest value is if the arcs number `firsts[k]` and `seconds[k]`
-- are closed.
pub record ArePairLosses (n : Network) (firsts seconds losses : List ℕ) : Type 0 where
  pub size : length losses ≡ length firsts
  pub each : (k : ℕ) → k < length losses → IsLossOfPair n (slice_index firsts k) (slice_index seconds k) (slice_index losses k)

-- The answer to a caller that asks for the losses of pairs with an array of length `given`: that the lengths differ; that a number is no arc's; or
-- that of a call for losses.
abbrev pub AnswersPairLosses : NetworkState → List ℕ → List ℕ → ℕ → ℕ → Type 0
AnswersPairLosses s firsts seconds given code =
    MatchBool (length firsts == given && length seconds == given)
    (MatchBool (are_arcs s.network firsts && are_arcs s.network seconds) (TellsLosses s code) (code ≡ DMF_NO_SUCH_ARC))
    (code ≡ DMF_BAD_LENGTH)
