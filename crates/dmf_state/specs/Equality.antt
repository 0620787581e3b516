-- What `==` of states and of sides computes. Their contracts say that it decides whether the two are equal.
-- Public: a public contract says no more than this.
use Rattle.std.specs.Prelude.{◌==◌, Bool}
use Rattle.std.specs.Bool.{beq}
use Rattle.std.specs.Ordering.{eq_of_both, on}
use Rattle.std.specs.Cmp.Lexicographic.{pointwise}
use Rattle.dmf_state.specs.declared.arc.Arc.{Arc}
use Rattle.dmf_state.specs.Network.{Network}
use Rattle.dmf_state.specs.NetworkState.{NetworkState}
use Rattle.dmf_state.specs.Side.{CutSide}

-- whether two arcs are the same
abbrev pub same_arc : Arc → Arc → Bool
same_arc = eq_of_both (on (λ arc. arc.tail) ◌==◌) (eq_of_both (on (λ arc. arc.head) ◌==◌)
    (eq_of_both (on (λ arc. arc.cap) ◌==◌) (on (λ arc. arc.closed) beq)))

-- whether two networks are the same
abbrev pub same_network : Network → Network → Bool
same_network = eq_of_both (on (λ n. n.nodes) ◌==◌) (eq_of_both (on (λ n. n.source) ◌==◌)
    (eq_of_both (on (λ n. n.sink) ◌==◌) (on (λ n. n.arcs) (pointwise same_arc))))

-- whether two states are the same
abbrev pub same_state : NetworkState → NetworkState → Bool
same_state = eq_of_both (on (λ s. s.network) same_network) (on (λ s. s.flows) (pointwise ◌==◌))

-- whether two sides are the same
abbrev pub same_side : CutSide → CutSide → Bool
same_side = eq_of_both (on (λ side. side.ids) (pointwise ◌==◌)) (on (λ side. side.capacity) ◌==◌)
