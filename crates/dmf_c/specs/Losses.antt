-- What C gets of chosen arcs and nodes.
-- Public: a public contract says no more than this.
use Rattle.std.specs.Prelude.{ℕ, ◌≡◌, ◌<◌, ◌⊎◌, Bool, nat_eq, List, length, slice_index, MatchBool}
use Rattle.std.specs.List.{list_all}
use Rattle.dmf_node.specs.Node.{is_node}
use Rattle.dmf_state.specs.Network.{Network, has_arc}
use Rattle.dmf_state.specs.NetworkState.{NetworkState}
use Rattle.dmf_vital.specs.Loss.{IsLossOfArc, IsLossAt}
use Rattle.dmf_c.specs.Arrays.{TellsGreatest}
use Rattle.dmf_c.specs.Status.{DMF_NO_MEMORY, DMF_NO_SUCH_NODE, DMF_NO_SUCH_ARC, DMF_BAD_LENGTH}

-- whether each number is that of an arc
abbrev pub are_arcs : Network → List ℕ → Bool
are_arcs n numbers = list_all (has_arc n) numbers

-- whether each number is that of a node
abbrev pub are_nodes : Network → List ℕ → Bool
are_nodes n numbers = list_all (is_node n.nodes) numbers

-- The array has what is lost without each of these arcs: at index `k`, how much less the greatest value is if arc number `arcs[k]` is closed.
pub record AreArcLosses (n : Network) (arcs losses : List ℕ) : Type 0 where
  pub size : length losses ≡ length arcs
  pub each : (k : ℕ) → k < length losses → IsLossOfArc n (slice_index arcs k) (slice_index losses k)

-- The array has what is lost without each of these nodes: at index `k`, how much less the greatest value is if each arc at node `nodes[k]` is
-- closed, and 0 for the source and the sink.
pub record AreNodeLosses (n : Network) (nodes losses : List ℕ) : Type 0 where
  pub size : length losses ≡ length nodes
  pub each : (k : ℕ) → k < length losses → IsLossAt n (slice_index nodes k) (slice_index losses k)

-- The answer to a caller that asks for losses in the right way: that no flow has a larger value, or that some flow has; or that memory was refused.
abbrev pub TellsLosses : NetworkState → ℕ → Type 0
TellsLosses s code = (code ≡ DMF_NO_MEMORY) ⊎ TellsGreatest s s.flows code

-- The answer to a caller that asks for losses with an array of length `given`, which should have length `wanted`: that the lengths differ, or as
-- above.
abbrev pub AnswersLosses : NetworkState → ℕ → ℕ → ℕ → Type 0
AnswersLosses s given wanted code = MatchBool (nat_eq given wanted) (TellsLosses s code) (code ≡ DMF_BAD_LENGTH)

-- The answer to a caller that asks for the losses of these arcs with an array of length `given`: that the lengths differ; that a number is no
-- arc's; or as above.
abbrev pub AnswersArcLosses : NetworkState → List ℕ → ℕ → ℕ → Type 0
AnswersArcLosses s arcs given code =
    MatchBool (nat_eq (length arcs) given) (MatchBool (are_arcs s.network arcs) (TellsLosses s code) (code ≡ DMF_NO_SUCH_ARC)) (code ≡ DMF_BAD_LENGTH)

-- The same of these nodes.
abbrev pub AnswersNodeLosses : NetworkState → List ℕ → ℕ → ℕ → Type 0
AnswersNodeLosses s nodes given code =
    MatchBool (nat_eq (length nodes) given) (MatchBool (are_nodes s.network nodes) (TellsLosses s code) (code ≡ DMF_NO_SUCH_NODE)) (code ≡ DMF_BAD_LENGTH)
