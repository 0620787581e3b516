-- The network in which a node is shut.
use Rattle.std.proofs.Common.{ℕ, ◌≡◌, ◌+◌, ◌-◌, ◌≤◌, ◌==◌, ◌&&◌, ◌||◌, not, Bool, true, false, cond, List, [], ◌∷◌, ◌++◌, length, get_or, set, map, refl, ap, sym, ◌∙◌, subst}
use Rattle.std.proofs.Common.{append_assoc, arith, length-append}
use Rattle.std.specs.List.{zip, All}
use Rattle.std.proofs.Math.Seq.{get_or-append_seam, set-append_seam}
use Rattle.std.proofs.lemmas.Bool.{both_ways}
use Rattle.std.proofs.lemmas.Int.{ints}
use Rattle.std.proofs.lemmas.List.{length-map}
use Rattle.std.proofs.lemmas.List.Elements.{All-map, All-head, All-tail}
use Rattle.std.proofs.lemmas.List.Sums.{sum_by-cons}
use Rattle.dmf_state.specs.declared.arc.Arc.{Arc}
use Rattle.dmf_state.specs.Arc.{IsArc, no_arc, closed_arc, capacity_sum, is_open_at, open_arcs_at}
use Rattle.dmf_state.specs.Flow.{flow_at, AreWithinCapacities, IsFlow, flow_value}
use Rattle.dmf_state.specs.Network.{Network, IsNetwork, arc_number, with_arc}
use Rattle.dmf_state.specs.NetworkState.{NetworkState}
use Rattle.dmf_state.proofs.Summing.{at_node}
use Rattle.dmf_solver.specs.Change.{Closes}
use Rattle.dmf_vital.specs.Laws.{NodeHasLoss, ShuttingLeavesOut}
use Rattle.dmf_vital.specs.Without.{shut_arc, without_node}
use Rattle.dmf_vital.proofs.Values.{some-value}

-- ---- one arc

-- Shut or not, an arc has the same ends, no more capacity, and is an arc.
record StaysArc (arc shut : Arc) : Type 0 where
  tail : shut.tail ≡ arc.tail
  head : shut.head ≡ arc.head
  cap : shut.cap ≤ arc.cap

stays-arc : (b : Bool) (arc : Arc) → StaysArc arc (cond b (closed_arc arc) arc)
stays-arc true arc = record { tail = refl; head = refl; cap = omega arith }
stays-arc false arc = record { tail = refl; head = refl; cap = omega arith }

shut-is_arc : (nodes : ℕ) (b : Bool) (arc : Arc) → IsArc nodes arc → IsArc nodes (cond b (closed_arc arc) arc)
shut-is_arc nodes true arc is = record { tail = is.tail; head = is.head; closed = λ _. refl }
shut-is_arc nodes false arc is = is

-- ---- all arcs

module _ (v : ℕ) where
  abbrev at : Arc → Bool
  at arc = arc.tail == v || arc.head == v

  -- The sum of the capacities is no larger.
  sum-shut : (arcs : List Arc) → capacity_sum (map (shut_arc v) arcs) ≤ capacity_sum arcs
  sum-shut [] = omega arith
  sum-shut (arc ∷ arcs) =
      let cap : Arc → ℕ = λ a. a.cap in
      omega (
        arith,
        (stays-arc (at arc) arc).cap,
        sum-shut arcs,
        sum_by-cons cap (shut_arc v arc) (map (shut_arc v) arcs),
        sum_by-cons cap arc arcs,
      )

  -- A network with a node shut is a network.
  pub network-shut : (n : Network) → IsNetwork n → IsNetwork (without_node n v)
  network-shut n network = record {
    at_least_two_nodes = network.at_least_two_nodes;
    at_most_nodes = network.at_most_nodes;
    source = network.source;
    sink = network.sink;
    two_terminals = network.two_terminals;
    arcs = All-map (IsArc n.nodes) (shut_arc v) n.arcs (λ k d h. shut-is_arc n.nodes (at (get_or n.arcs k d)) (get_or n.arcs k d) (network.arcs k d h));
    at_most_arcs = rw length-map network.at_most_arcs;
    capacities = omega (arith, sum-shut n.arcs, network.capacities);
  }

  -- The sums of a flow are the same,
  flow_at-shut : (end : Arc → ℕ) → ((arc : Arc) → end (shut_arc v arc) ≡ end arc) → (arcs : List Arc) (flows : List ℕ) (u : ℕ)
      → flow_at end (map (shut_arc v) arcs) flows u ≡ flow_at end arcs flows u
  flow_at-shut end stays [] flows u = refl
  flow_at-shut end stays (arc ∷ arcs) [] u = refl
  flow_at-shut end stays (arc ∷ arcs) (x ∷ flows) u =
      let f : Arc × ℕ → ℕ = at_node end u in
      let here : f (shut_arc v arc, x) ≡ f (arc, x) = ap (λ m. cond (m == u) x 0) (stays arc) in
      omega (
        arith,
        here,
        flow_at-shut end stays arcs flows u,
        sum_by-cons f (shut_arc v arc, x) (zip (map (shut_arc v) arcs) flows),
        sum_by-cons f (arc, x) (zip arcs flows),
      )

  out-shut : (arcs : List Arc) (flows : List ℕ) (u : ℕ) → flow_at (λ a. a.tail) (map (shut_arc v) arcs) flows u ≡ flow_at (λ a. a.tail) arcs flows u
  out-shut = flow_at-shut (λ a. a.tail) (λ arc. (stays-arc (at arc) arc).tail)

  into-shut : (arcs : List Arc) (flows : List ℕ) (u : ℕ) → flow_at (λ a. a.head) (map (shut_arc v) arcs) flows u ≡ flow_at (λ a. a.head) arcs flows u
  into-shut = flow_at-shut (λ a. a.head) (λ arc. (stays-arc (at arc) arc).head)

  -- and so a flow of the network with the node shut is one of the network,
  within-shut : (arcs : List Arc) (flows : List ℕ) → AreWithinCapacities (map (shut_arc v) arcs) flows → AreWithinCapacities arcs flows
  within-shut [] flows within = within
  within-shut (arc ∷ arcs) [] within = within
  within-shut (arc ∷ arcs) (x ∷ flows) within = (omega (arith, within.0, (stays-arc (at arc) arc).cap), within-shut arcs flows within.1)

  pub flow-from_shut : (n : Network) (flows : List ℕ) → IsFlow (without_node n v) flows → IsFlow n flows
  flow-from_shut n flows flow = record {
    within = within-shut n.arcs flows flow.within;
    conserved = λ u inner.
        let same = flow.conserved u (record { node = inner.node; not_source = inner.not_source; not_sink = inner.not_sink }) in
        omega (arith, same, out-shut n.arcs flows u, into-shut n.arcs flows u);
  }

  -- of the same value.
  pub value-shut : (n : Network) (flows : List ℕ) → flow_value (without_node n v) flows ≡ flow_value n flows
  value-shut n flows = omega (arith, ints, out-shut n.arcs flows n.source, into-shut n.arcs flows n.source)

-- So each node but the source and the sink has a loss.
pub some-node_loss : NodeHasLoss
some-node_loss n v network inner =
    let before = some-value n network in
    let after = some-value (without_node n v) (network-shut v n network) in
    let flow = after.1.greatest.flow in
    let less = before.1.greatest.none_larger after.1.flows (flow-from_shut v n after.1.flows flow) in (
      before.0 - after.0,
      (
        inner,
        record {
          before = before.0;
          after = after.0;
          greatest_before = before.1;
          greatest_after = after.1;
          difference = omega (arith, ints, less, value-shut v n after.1.flows, before.1.value_is, after.1.value_is);
        },
      ),
    )

-- ---- closing the open arcs at the node in turn

-- An arc that is not open at the node stays as it is,
shut-same : (closed at : Bool) (arc : Arc) → arc.closed ≡ closed → (closed ≡ true → arc.cap ≡ 0) → (not closed && at) ≡ false
    → cond at (closed_arc arc) arc ≡ arc
shut-same true true arc is none apart = λ i. record { tail = arc.tail; head = arc.head; cap = sym (none refl) i; closed = sym is i }
shut-same true false arc is none apart = refl
shut-same false true arc is none apart = absurd (both_ways true apart refl)
shut-same false false arc is none apart = refl

-- and one that is is closed.
open-at : (closed at : Bool) → (not closed && at) ≡ true → at ≡ true
open-at true at e = absurd (both_ways false refl e)
open-at false at e = e

-- the network with these arcs
abbrev with_arcs : Network → List Arc → Network
with_arcs n arcs = record { nodes = n.nodes; source = n.source; sink = n.sink; arcs = arcs }

-- the arcs with one of them at the end of those that are done
seam : (done : List Arc) (arc : Arc) (arcs : List Arc) → (done ++ arc ∷ []) ++ arcs ≡ done ++ arc ∷ arcs
seam done arc arcs = append_assoc done (arc ∷ []) arcs

-- Closing the arc after those that are done.
closed-next : (n : Network) (done : List Arc) (arc : Arc) (arcs : List Arc)
    → with_arc (with_arcs n (done ++ arc ∷ arcs)) (length done + 1) (closed_arc (arc_number (with_arcs n (done ++ arc ∷ arcs)) (length done + 1)))
    ≡ with_arcs n ((done ++ closed_arc arc ∷ []) ++ arcs)
closed-next n done arc arcs =
    let place : length done + 1 - 1 ≡ length done = omega arith in
    let all : List Arc = done ++ arc ∷ arcs in
    let read : get_or all (length done + 1 - 1) no_arc ≡ arc = rw place (get_or-append_seam done arc arcs no_arc) in
    let made : set all (length done + 1 - 1) (closed_arc (get_or all (length done + 1 - 1) no_arc)) ≡ (done ++ closed_arc arc ∷ []) ++ arcs =
    ap (λ (a : Arc). set all (length done + 1 - 1) (closed_arc a)) read
    ∙ ap (λ i. set all i (closed_arc arc)) place
    ∙ set-append_seam done arc arcs (closed_arc arc)
    ∙ sym (seam done (closed_arc arc) arcs) in
    ap (with_arcs n) made

-- What closing the arcs at the node, among the rest, makes of the network.
abbrev ShutsRest : ℕ → Network → List Arc → List Arc → NetworkState → NetworkState → Type 0
ShutsRest v n done arcs s t =
    s.network ≡ with_arcs n (done ++ arcs) → Closes (open_arcs_at v (length done + 1) arcs) s t → t.network ≡ with_arcs n (done ++ map (shut_arc v) arcs)

-- The next arc is open at the node, and closed,
shuts-open : (v : ℕ) (n : Network) (done : List Arc) (arc : Arc) (arcs : List Arc) (s t : NetworkState)
    → ((u : NetworkState) → ShutsRest v n (done ++ closed_arc arc ∷ []) arcs u t) → s.network ≡ with_arcs n (done ++ arc ∷ arcs) → is_open_at v arc ≡ true
    → Closes ((length done + 1) ∷ open_arcs_at v (length done + 1 + 1) arcs) s t → t.network ≡ with_arcs n (done ++ map (shut_arc v) (arc ∷ arcs))
shuts-open v n done arc arcs s t rest is e closes =
    let u : NetworkState = closes.0 in
    let made : u.network ≡ with_arcs n ((done ++ closed_arc arc ∷ []) ++ arcs) =
    closes.1.0 ∙ ap (λ (m : Network). with_arc m (length done + 1) (closed_arc (arc_number m (length done + 1)))) is ∙ closed-next n done arc arcs in
    let long : length done + 1 ≡ length (done ++ closed_arc arc ∷ []) = sym (length-append done (closed_arc arc ∷ [])) in
    let later = rest u made (subst (λ i. Closes (open_arcs_at v (i + 1) arcs) u t) long closes.2) in
    let here : shut_arc v arc ≡ closed_arc arc = ap (λ b. cond b (closed_arc arc) arc) (open-at arc.closed (at v arc) e) in
    later ∙ ap (with_arcs n) (seam done (closed_arc arc) (map (shut_arc v) arcs) ∙ ap (λ (a : Arc). done ++ a ∷ map (shut_arc v) arcs) (sym here))

-- or it stays.
shuts-other : (v : ℕ) (n : Network) (done : List Arc) (arc : Arc) (arcs : List Arc) (s t : NetworkState) → ShutsRest v n (done ++ arc ∷ []) arcs s t
    → s.network ≡ with_arcs n (done ++ arc ∷ arcs) → IsArc n.nodes arc → is_open_at v arc ≡ false
    → Closes (open_arcs_at v (length done + 1 + 1) arcs) s t → t.network ≡ with_arcs n (done ++ map (shut_arc v) (arc ∷ arcs))
shuts-other v n done arc arcs s t rest is good e closes =
    let long : length done + 1 ≡ length (done ++ arc ∷ []) = sym (length-append done (arc ∷ [])) in
    let later = rest (is ∙ ap (with_arcs n) (sym (seam done arc arcs))) (subst (λ i. Closes (open_arcs_at v (i + 1) arcs) s t) long closes) in
    let here : shut_arc v arc ≡ arc = shut-same arc.closed (at v arc) arc refl good.closed e in
    later ∙ ap (with_arcs n) (seam done arc (map (shut_arc v) arcs) ∙ ap (λ (a : Arc). done ++ a ∷ map (shut_arc v) arcs) (sym here))

shuts : (v : ℕ) (n : Network) (done arcs : List Arc) (s t : NetworkState) → All (IsArc n.nodes) arcs → ShutsRest v n done arcs s t
shuts v n done [] s t all is closes = ap (λ (x : NetworkState). x.network) (sym closes) ∙ is
shuts v n done (arc ∷ arcs) s t all is closes =
    let later = All-tail (IsArc n.nodes) arc arcs all in
    let js : List ℕ = open_arcs_at v (length done + 1 + 1) arcs in
    (elim (is_open_at v arc)
    as (λ b. is_open_at v arc ≡ b → Closes (cond b ((length done + 1) ∷ js) js) s t → t.network ≡ with_arcs n (done ++ map (shut_arc v) (arc ∷ arcs))) [
      | true ↦ λ e c. shuts-open v n done arc arcs s t (λ u. shuts v n (done ++ closed_arc arc ∷ []) arcs u t later) is e c
      | false ↦ λ e c. shuts-other v n done arc arcs s t (shuts v n (done ++ arc ∷ []) arcs s t later) is (All-head (IsArc n.nodes) arc arcs all) e c
    ])
    refl closes

-- Shutting a node makes the network without it.
pub shutting-leaves_out : ShuttingLeavesOut
shutting-leaves_out s t v network becomes = shuts v s.network [] s.network.arcs s t network.arcs refl becomes
