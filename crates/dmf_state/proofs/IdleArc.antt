-- Appending an arc without flow leaves every sum of flows as it is.
use Rattle.std.proofs.Common.{ℕ, ◌≡◌, ◌+◌, ◌^◌, ◌<◌, ◌≤◌, ◌==◌, List, [], ◌∷◌, ◌++◌, length, true, false, cond, refl, ap, ◌∙◌, sym, arith}
use Rattle.std.proofs.Common.{add-zero, eq-eqb}
use Rattle.std.specs.List.{zip}
use Rattle.std.proofs.lemmas.List.Sums.{sum_by_push}
use Rattle.std.proofs.lemmas.Grind.{common_steps}
use Rattle.std.proofs.lemmas.Bool.{cond_both}
use Rattle.std.proofs.lemmas.Bool.Decides.{nat_tests}
use Rattle.std.proofs.lemmas.List.Elements.{All-push}
use Rattle.std.proofs.lemmas.Slice.Zip.{AllZip-long, all_zipped_more}
use Rattle.dmf_state.specs.declared.arc.Arc.{Arc}
use Rattle.dmf_state.specs.declared.flow_sums.NodeFlow.{NodeFlow}
use Rattle.dmf_node.specs.Node.{IsNode, is_node}
use Rattle.dmf_state.specs.Arc.{IsArc, capacity_sum}
use Rattle.dmf_state.specs.Network.{Network}
use Rattle.dmf_state.specs.Flow.{flow_at, IsFlow, flow_value}
use Rattle.dmf_state.specs.Edit.{differences}
use Rattle.dmf_state.specs.NetworkState.{NetworkState, IsState, with_last_arc, with_idle_arc}
use Rattle.dmf_state.specs.Totals.{KeepsTotals}

pub zip-push : {A B : Type 0} (xs : List A) (ys : List B) (x : A) (y : B) → length ys ≡ length xs → zip (xs ++ x ∷ []) (ys ++ y ∷ []) ≡ zip xs ys ++ (x, y) ∷ []
zip-push [] [] x y e = refl
zip-push (a ∷ xs) (b ∷ ys) x y e = ap (λ ps. (a, b) ∷ ps) (zip-push xs ys x y (omega (arith, e)))
zip-push xs ys x y e = absurd (omega (arith, e))

-- the sum at a node, with the new arc
pub flow_at-idle : (end : Arc → ℕ) (arcs : List Arc) (flows : List ℕ) (arc : Arc) (v : ℕ) → length flows ≡ length arcs
    → flow_at end (arcs ++ arc ∷ []) (flows ++ 0 ∷ []) v ≡ flow_at end arcs flows v
flow_at-idle end arcs flows arc v e =
    let f : Arc × ℕ → ℕ = λ p. cond (end p.0 == v) p.1 0 in
    let none : f (arc, 0) ≡ 0 = cond_both (end arc == v) 0 0 (λ n. n ≡ 0) (λ _. refl) (λ _. refl) in
    rw (zip-push arcs flows arc 0 e, sum_by_push f (zip arcs flows) (arc, 0), none, add-zero) refl

pub flow_value-idle : (n : Network) (flows : List ℕ) (arc : Arc) → length flows ≡ length n.arcs
    → flow_value (with_last_arc n arc) (flows ++ 0 ∷ []) ≡ flow_value n flows
flow_value-idle n flows arc e =
    let leaving = flow_at-idle (λ a. a.tail) n.arcs flows arc n.source e in
    let entering = flow_at-idle (λ a. a.head) n.arcs flows arc n.source e in
    cc

pub IsFlow-idle : (n : Network) (flows : List ℕ) (arc : Arc) → IsFlow n flows → IsFlow (with_last_arc n arc) (flows ++ 0 ∷ [])
IsFlow-idle n flows arc flow =
    let e = AllZip-long _ n.arcs flows flow.within in
    record {
      within = all_zipped_more (λ (a : Arc) (x : ℕ). x ≤ a.cap) n.arcs flows arc 0 flow.within (omega arith);
      conserved = λ v inner.
          let out = flow_at-idle (λ a. a.tail) n.arcs flows arc v e in
          let into = flow_at-idle (λ a. a.head) n.arcs flows arc v e in
          let same = flow.conserved v (record { node = inner.node; not_source = inner.not_source; not_sink = inner.not_sink }) in
          cc;
    }

-- If a network can take the arc, the result is a state.
pub IsState-idle : (s : NetworkState) (arc : Arc) → IsState s → IsArc s.network.nodes arc → length s.network.arcs < 2 ^ 27
    → capacity_sum s.network.arcs + arc.cap < 2 ^ 64 → IsState (with_idle_arc s arc)
IsState-idle s arc state fits few small =
    let e = AllZip-long _ s.network.arcs s.flows state.flow.within in
    record {
      network = record {
        at_least_two_nodes = state.network.at_least_two_nodes;
        at_most_nodes = state.network.at_most_nodes;
        source = state.network.source;
        sink = state.network.sink;
        two_terminals = state.network.two_terminals;
        arcs = All-push (IsArc s.network.nodes) s.network.arcs arc state.network.arcs fits;
        at_most_arcs = grind (arith, common_steps);
        capacities = rw sum_by_push small;
      };
      flow = IsFlow-idle s.network s.flows arc state.flow;
      value_from_zero = rw (flow_value-idle s.network s.flows arc e) state.value_from_zero;
    }

-- A node by the test is a node.
pub IsNode-is_node : (nodes v : ℕ) → is_node nodes v ≡ true → IsNode nodes v
IsNode-is_node nodes v h = record { from_one = grind (arith, nat_tests); to_last = grind (arith, nat_tests) }

-- the totals with a new open arc
pub KeepsTotals-idle : (s : NetworkState) (arc : Arc) (sum : ℕ) (source : NodeFlow) (count : ℕ) → KeepsTotals s sum source count → arc.closed ≡ false
    → IsState (with_idle_arc s arc) → KeepsTotals (with_idle_arc s arc) (sum + arc.cap) source (count + 1)
KeepsTotals-idle s arc sum source count keeps is_open state =
    let e = AllZip-long _ s.network.arcs s.flows keeps.state.flow.within in
    record {
      state = state;
      sum_is = rw sum_by_push (ap (λ x. x + arc.cap) keeps.sum_is);
      at_source = record {
        leaving = keeps.at_source.leaving ∙ sym (flow_at-idle (λ a. a.tail) s.network.arcs s.flows arc s.network.source e);
        entering = keeps.at_source.entering ∙ sym (flow_at-idle (λ a. a.head) s.network.arcs s.flows arc s.network.source e);
      };
      count_is = rw (sum_by_push, is_open) (ap (λ x. x + 1) keeps.count_is);
    }

-- no flow differs where a flow of 0 is appended
pub differences-push : (j : ℕ) (flows : List ℕ) (x : ℕ) → differences j flows (flows ++ x ∷ []) ≡ []
differences-push j [] x = refl
differences-push j (y ∷ flows) x = rw (eq-eqb y y refl) (differences-push (j + 1) flows x)
