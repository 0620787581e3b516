-- What `==` computes of arcs, of networks and of states says whether the two are equal.
use Rattle.std.proofs.Common.{◌≡◌, Bool}
use Rattle.std.specs.Bool.{Decides}
use Rattle.std.specs.Cmp.{booleans_Decides}
use Rattle.std.specs.Cmp.Lexicographic.{pointwise_decides}
use Rattle.std.proofs.lemmas.Bool.Decides.{Decides-and, Decides-eqb}
use Rattle.dmf_state.specs.declared.arc.Arc.{Arc}
use Rattle.dmf_state.specs.Network.{Network}
use Rattle.dmf_state.specs.NetworkState.{NetworkState}
use Rattle.dmf_state.specs.Equality.{same_arc, same_network, same_state}

-- A test that decides a statement decides each equivalent one.
Decides-same : {P Q : Type 0} (r : Bool) → Decides r P → (P → Q) → (Q → P) → Decides r Q
Decides-same r decides there back = (λ e. there (decides.0 e), λ q. decides.1 (back q))

same_arc-Decides : (a b : Arc) → Decides (same_arc a b) (a ≡ b)
same_arc-Decides a b =
    Decides-same _ (Decides-and _ _ (Decides-eqb a.tail b.tail) (Decides-and _ _ (Decides-eqb a.head b.head)
    (Decides-and _ _ (Decides-eqb a.cap b.cap) (booleans_Decides a.closed b.closed))))
    (λ h i. record { tail = h.0 i; head = h.1.0 i; cap = h.1.1.0 i; closed = h.1.1.1 i })
    (λ e. (λ i. (e i).tail, (λ i. (e i).head, (λ i. (e i).cap, λ i. (e i).closed))))

same_network-Decides : (a b : Network) → Decides (same_network a b) (a ≡ b)
same_network-Decides a b =
    Decides-same _ (Decides-and _ _ (Decides-eqb a.nodes b.nodes) (Decides-and _ _ (Decides-eqb a.source b.source)
    (Decides-and _ _ (Decides-eqb a.sink b.sink) (pointwise_decides same_arc-Decides a.arcs b.arcs))))
    (λ h i. record { nodes = h.0 i; source = h.1.0 i; sink = h.1.1.0 i; arcs = h.1.1.1 i })
    (λ e. (λ i. (e i).nodes, (λ i. (e i).source, (λ i. (e i).sink, λ i. (e i).arcs))))

-- If a bool is what `==` computes of two states, it decides whether they are equal.
pub same_state-Decides : (a b : NetworkState) (r : Bool) → r ≡ same_state a b → Decides r (a ≡ b)
same_state-Decides a b r is =
    rw is (Decides-same _ (Decides-and _ _ (same_network-Decides a.network b.network) (pointwise_decides Decides-eqb a.flows b.flows))
    (λ h i. record { network = h.0 i; flows = h.1 i })
    (λ e. (λ i. (e i).network, λ i. (e i).flows)))
