-- What C gets of new arcs, and of second arcs beside those that are there.
-- Public: a public contract says no more than this.
use Rattle.std.specs.Prelude.{ℕ, ◌≡◌, ◌<◌, ◌⊎◌, ◌==◌, ◌&&◌, List, [], ◌∷◌, length, map, slice_index, slice_index_or, MatchBool}
use Rattle.dmf_state.specs.declared.arc.Arc.{Arc}
use Rattle.dmf_state.specs.Arc.{no_arc, open_arc}
use Rattle.dmf_state.specs.Network.{Network, arc_number}
use Rattle.dmf_state.specs.NetworkState.{NetworkState}
use Rattle.dmf_vital.specs.Loss.{IsGainOfArc, TakesFourOfEach}
use Rattle.dmf_c.specs.Losses.{TellsLosses, are_arcs, are_nodes}
use Rattle.dmf_c.specs.Status.{DMF_NO_SUCH_NODE, DMF_NO_SUCH_ARC, DMF_TOO_MANY_ARCS, DMF_SUM_TOO_LARGE, DMF_BAD_LENGTH, IsOneOf}

-- the arcs of these numbers
abbrev pub arcs_of : Network → List ℕ → List Arc
arcs_of n numbers = map (arc_number n) numbers

-- the open arcs with these tails, heads and capacities
abbrev pub open_arcs : List ℕ → List ℕ → List ℕ → List Arc
open_arcs (tail ∷ tails) (head ∷ heads) (cap ∷ caps) = open_arc tail head cap ∷ open_arcs tails heads caps
open_arcs tails heads caps = []

-- The array has what each of these arcs gains as a new arc: at index `k`, how much greater the greatest value is if only an open arc with the
-- tail, the head and the capacity of the arc at index `k` is added.
pub record AreGains (n : Network) (arcs : List Arc) (gains : List ℕ) : Type 0 where
  pub size : length gains ≡ length arcs
  pub each : (k : ℕ) → k < length arcs → IsGainOfArc n (slice_index_or arcs k no_arc) (slice_index gains k)

-- The answer to a caller that asks for gains in the right way: that of a call for losses; or that the network cannot take such arcs.
abbrev pub TellsGains : NetworkState → List Arc → ℕ → Type 0
TellsGains s arcs code =
    TellsLosses s code
    ⊎ (IsOneOf code (DMF_NO_SUCH_NODE ∷ DMF_TOO_MANY_ARCS ∷ DMF_SUM_TOO_LARGE ∷ []) × ¬ TakesFourOfEach s.network arcs)

-- The answer to a caller that asks for the gains of second arcs with an array of length `given`: that the lengths differ; that a number is no
-- arc's; or as above.
abbrev pub AnswersSecondGains : NetworkState → List ℕ → ℕ → ℕ → Type 0
AnswersSecondGains s numbers given code =
    MatchBool (length numbers == given)
    (MatchBool (are_arcs s.network numbers) (TellsGains s (arcs_of s.network numbers) code) (code ≡ DMF_NO_SUCH_ARC))
    (code ≡ DMF_BAD_LENGTH)

-- The answer to a caller that asks for the gains of new arcs with an array of length `given`: that the lengths differ; that an end is no node; or
-- as above.
abbrev pub AnswersNewArcGains : NetworkState → List ℕ → List ℕ → List ℕ → ℕ → ℕ → Type 0
AnswersNewArcGains s tails heads caps given code =
    MatchBool (length tails == given && length heads == given && length caps == given)
    (MatchBool (are_nodes s.network tails && are_nodes s.network heads) (TellsGains s (open_arcs tails heads caps) code) (code ≡ DMF_NO_SUCH_NODE))
    (code ≡ DMF_BAD_LENGTH)
