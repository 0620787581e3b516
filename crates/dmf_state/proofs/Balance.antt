-- The sums at the nodes give conservation and the value.
use Rattle.std.proofs.Common.{ℕ, ◌≡◌, ◌+◌, ◌-◌, ◌<◌, ◌≤◌, List, length, slice_index, arith, sym, ap, ◌∙◌, pos, ◌<ℤ◌}
use Rattle.std.proofs.lemmas.Int.{ints}
use Rattle.dmf_state.specs.declared.arc.Arc.{Arc}
use Rattle.dmf_node.specs.Node.{IsNode}
use Rattle.dmf_state.specs.declared.flow_sums.NodeFlow.{NodeFlow}
use Rattle.dmf_state.specs.Network.{Network, IsNetwork}
use Rattle.dmf_state.specs.Flow.{flow_at, IsFlow, IsInnerNode, IsConservedAt, flow_value}
use Rattle.dmf_state.specs.NetworkState.{NetworkState, IsState, with_flows}
use Rattle.dmf_state.specs.Totals.{KeepsTotals}
use Rattle.dmf_state.specs.FlowSums.{IsNodeFlow, AreFlowSums, IsLeast, IsUnbalanced, IsInnerUpTo, AreSameAt, DifferAt}

-- One list has the sums at the tails, the other the sums at the heads.
pub record AreBothSums (n : Network) (flows leaving entering : List ℕ) : Type 0 where
  pub tails : AreFlowSums (λ arc. arc.tail) n.nodes n.arcs flows leaving
  pub heads : AreFlowSums (λ arc. arc.head) n.nodes n.arcs flows entering

sum_at : (end : Arc → ℕ) (nodes : ℕ) (arcs : List Arc) (flows sums : List ℕ) (v : ℕ) → AreFlowSums end nodes arcs flows sums → IsNode nodes v
    → slice_index sums (v - 1) ≡ flow_at end arcs flows v
sum_at end nodes arcs flows sums v s node =
    let place : v - 1 + 1 ≡ v = omega (arith, node.from_one) in
    s.each (v - 1) (omega (arith, s.one_each, node.from_one, node.to_last)) ∙ ap (flow_at end arcs flows) place

module _ (n : Network) (flows leaving entering : List ℕ) (s : AreBothSums n flows leaving entering) where
  same-to_conserved : (v : ℕ) → IsNode n.nodes v → AreSameAt leaving entering v → IsConservedAt n flows v
  same-to_conserved v node same = sym (sum_at _ _ _ _ leaving v s.tails node) ∙ same ∙ sum_at _ _ _ _ entering v s.heads node

  -- Where the sums at all inner nodes agree, flow is conserved there.
  pub conserved-from_sums : ((v : ℕ) → IsInnerUpTo (length leaving) n.source n.sink v → AreSameAt leaving entering v)
      → (v : ℕ) → IsInnerNode n v → IsConservedAt n flows v
  conserved-from_sums same v inner =
      same-to_conserved v inner.node (same v (record {
        from_one = inner.node.from_one;
        to_last = omega (arith, s.tails.one_each, inner.node.to_last);
        not_source = inner.not_source;
        not_sink = inner.not_sink;
      }))

  unbalanced-from_differ : (v : ℕ) → DifferAt n.source n.sink leaving entering v → IsUnbalanced n flows v
  unbalanced-from_differ v d =
      let node : IsNode n.nodes v = record { from_one = d.inner.from_one; to_last = omega (arith, s.tails.one_each, d.inner.to_last) } in
      record {
        inner = record { node = node; not_source = d.inner.not_source; not_sink = d.inner.not_sink };
        differ = λ conserved. d.differ (sum_at _ _ _ _ leaving v s.tails node ∙ conserved ∙ sym (sum_at _ _ _ _ entering v s.heads node));
      }

  differ-from_unbalanced : (v : ℕ) → IsUnbalanced n flows v → DifferAt n.source n.sink leaving entering v
  differ-from_unbalanced v u = record {
    inner = record {
      from_one = u.inner.node.from_one;
      to_last = omega (arith, s.tails.one_each, u.inner.node.to_last);
      not_source = u.inner.not_source;
      not_sink = u.inner.not_sink;
    };
    differ = λ same. u.differ (same-to_conserved v u.inner.node same);
  }

  -- The least node at which the sums differ is the least that does not conserve flow.
  pub least_unbalanced : (v : ℕ) → IsLeast (DifferAt n.source n.sink leaving entering) v → IsLeast (IsUnbalanced n flows) v
  least_unbalanced v least = record {
    holds = unbalanced-from_differ v least.holds;
    least = λ u lower unbalanced. least.least u lower (differ-from_unbalanced u unbalanced);
  }

  -- the sums at the source
  pub at_source-from_sums : (at : NodeFlow) → IsNode n.nodes n.source → at.leaving ≡ slice_index leaving (n.source - 1)
      → at.entering ≡ slice_index entering (n.source - 1) → IsNodeFlow n.arcs flows n.source at
  at_source-from_sums at source out into = record {
    leaving = out ∙ sum_at _ _ _ _ leaving _ s.tails source;
    entering = into ∙ sum_at _ _ _ _ entering _ s.heads source;
  }

-- the value, where the source's inflow is within its outflow
pub value-from_source : (n : Network) (flows : List ℕ) (at : NodeFlow) → IsNodeFlow n.arcs flows n.source at → at.entering ≤ at.leaving
    → pos (at.leaving - at.entering) ≡ flow_value n flows
value-from_source n flows at is le = omega (arith, ints, le, is.leaving, is.entering)

-- and where the inflow exceeds the outflow
pub negative-from_source : (n : Network) (flows : List ℕ) (at : NodeFlow) → IsNodeFlow n.arcs flows n.source at → at.leaving < at.entering
    → flow_value n flows <ℤ pos 0
negative-from_source n flows at is less = omega (arith, ints, less, is.leaving, is.entering)

-- a flow whose source's inflow is within its outflow makes a state
pub IsState-from_source : (n : Network) (flows : List ℕ) (at : NodeFlow) → IsNetwork n → IsFlow n flows → IsNodeFlow n.arcs flows n.source at
    → at.entering ≤ at.leaving → IsState (record { network = n; flows = flows })
IsState-from_source n flows at network flow is le = record {
  network = network;
  flow = flow;
  value_from_zero = rw (← value-from_source n flows at is le) (omega (arith, ints));
}

-- the source's inflow is within its outflow in every state
pub entering-le-leaving : (s : NetworkState) (at : NodeFlow) → IsState s → IsNodeFlow s.network.arcs s.flows s.network.source at → at.entering ≤ at.leaving
entering-le-leaving s at state is = omega (arith, ints, state.value_from_zero, is.leaving, is.entering)

-- the totals with these flows in place of the state's
pub KeepsTotals-with_flows : (s : NetworkState) (flows : List ℕ) (sum : ℕ) (before at : NodeFlow) (count : ℕ) → KeepsTotals s sum before count
    → IsState (with_flows s flows) → IsNodeFlow s.network.arcs flows s.network.source at → KeepsTotals (with_flows s flows) sum at count
KeepsTotals-with_flows s flows sum before at count keeps state is = record {
  state = state;
  sum_is = keeps.sum_is;
  at_source = is;
  count_is = keeps.count_is;
}
