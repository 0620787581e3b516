-- The fault of a flow, from what a walk over it finds.
use Rattle.std.proofs.Common.{ℕ, ◌≡◌, ◌+◌, ◌-◌, ◌<◌, ◌≤◌, zero, suc, List, length, get_or, Bool, true, false, Some, None, refl, ap, ◌∙◌, arith, ℤ, pos}
use Rattle.std.proofs.Common.{negsuc, ◌<ℤ◌, ◌≤ℤ◌, ⊎_elim, eq-eqb}
use Rattle.std.specs.List.{find, range_with_len}
use Rattle.std.specs.Prelude.{int_lt}
use Rattle.std.proofs.lemmas.Bool.{cond-true, cond-false, cases_lt, lt-ltb, le-ltb, ltb-true, ne_eqb}
use Rattle.std.proofs.lemmas.Bool.Decides.{eqb_tells}
use Rattle.std.proofs.lemmas.Int.{ints}
use Rattle.std.proofs.lemmas.Option.{get_or_from_slice_get, slice_get-get_or, slice_get_within}
use Rattle.dmf_state.specs.declared.arc.Arc.{Arc}
use Rattle.dmf_state.specs.declared.fault.FlowFault.TheVariants.{OverCapacity, NotConserved, Negative}
use Rattle.dmf_state.specs.Arc.{no_arc}
use Rattle.dmf_state.specs.Network.{Network}
use Rattle.dmf_state.specs.Flow.{outflow, inflow, flow_value, AreWithinCapacities, IsInnerNode, IsConservedAt, IsFlow}
use Rattle.dmf_state.specs.FlowFault.{is_over_capacity, first_over_capacity, is_unbalanced, first_unbalanced, flow_fault}
use Rattle.dmf_state.specs.FlowSums.{IsLeast, IsOverCapacity, IsUnbalanced}
use Rattle.dmf_state.specs.NetworkState.{IsState}
use Rattle.dmf_state.proofs.Changing.{within-at}

-- the least number with a property, among several
find-least : (p : ℕ → Bool) (a n v : ℕ) → a ≤ v → v < a + n → p v ≡ true → ((i : ℕ) → a ≤ i → i < v → p i ≡ false) → find p (range_with_len a n) ≡ Some v
find-least p a zero v from below holds least = absurd (omega (arith, from, below))
find-least p a (suc n) v from below holds least =
    ⊎_elim (λ same. cond-true _ _ _ (ap p same.1 ∙ holds) ∙ ap (λ x. Some x) same.1)
    (λ other. let differ = other.1 in
    cond-false _ _ _ (least a (omega arith) (omega (arith, from, differ)))
    ∙ find-least p (a + 1) n v (omega (arith, from, differ)) (omega (arith, below)) holds (λ i past before. least i (omega (arith, past)) before))
    (eqb_tells a v)

find-none : (p : ℕ → Bool) (a n : ℕ) → ((i : ℕ) → a ≤ i → i < a + n → p i ≡ false) → find p (range_with_len a n) ≡ None
find-none p a zero none = refl
find-none p a (suc n) none =
    cond-false _ _ _ (none a (omega arith) (omega arith))
    ∙ find-none p (a + 1) n (λ i past before. none i (omega (arith, past)) (omega (arith, before)))

int-below : (x : ℤ) → x <ℤ pos 0 → int_lt x (pos 0) ≡ true
int-below (pos a) less = absurd (omega (arith, ints, less))
int-below (negsuc a) less = refl

int-from_zero : (x : ℤ) → pos 0 ≤ℤ x → int_lt x (pos 0) ≡ false
int-from_zero (pos a) from = le-ltb a 0 (omega arith)
int-from_zero (negsuc a) from = absurd (omega (arith, ints, from))

-- The test for a number below 0 tells of one.
pub below-told : (x : ℤ) → int_lt x (pos 0) ≡ true → x <ℤ pos 0
below-told (pos a) less = absurd (let wrong : a < 0 = ltb-true a 0 less in omega (arith, wrong))
below-told (negsuc a) less = omega (arith, ints)

-- ---- arcs

-- Where all flows are within the capacities, no arc is over its capacity.
pub none-over : (arcs : List Arc) (flows : List ℕ) → AreWithinCapacities arcs flows → first_over_capacity arcs flows ≡ None
none-over arcs flows within =
    find-none (is_over_capacity arcs flows) 1 (length arcs) (λ j from below. le-ltb _ _ (within-at arcs flows (j - 1) within))

-- the least arc over capacity
least-over : (arcs : List Arc) (flows : List ℕ) (j : ℕ) → IsLeast (IsOverCapacity arcs flows) j → first_over_capacity arcs flows ≡ Some j
least-over arcs flows j least =
    let over = least.holds in
    let in_arcs = slice_get_within arcs (j - 1) over.arc over.arc_is in
    let in_flows = slice_get_within flows (j - 1) over.flow over.flow_is in
    let arc = get_or_from_slice_get arcs (j - 1) over.arc no_arc over.arc_is in
    let flow = get_or_from_slice_get flows (j - 1) over.flow 0 over.flow_is in
    let more : (get_or arcs (j - 1) no_arc).cap < get_or flows (j - 1) 0 = omega (arith, over.over, flow, ap (λ (a : Arc). a.cap) arc) in
    find-least (is_over_capacity arcs flows) 1 (length arcs) j over.from_one (omega (arith, in_arcs)) (lt-ltb _ _ more)
    (λ i from before.
    ⊎_elim
    (λ (above : (get_or arcs (i - 1) no_arc).cap < get_or flows (i - 1) 0).
    absurd (least.least i before (record {
      from_one = from;
      arc = get_or arcs (i - 1) no_arc;
      flow = get_or flows (i - 1) 0;
      arc_is = slice_get-get_or arcs (i - 1) no_arc (omega (arith, before, in_arcs));
      flow_is = slice_get-get_or flows (i - 1) 0 (omega (arith, before, in_flows));
      over = above;
    })))
    (λ (within : get_or flows (i - 1) 0 ≤ (get_or arcs (i - 1) no_arc).cap). le-ltb _ _ within)
    (cases_lt (get_or arcs (i - 1) no_arc).cap (get_or flows (i - 1) 0)))

-- ---- nodes

module _ (n : Network) (flows : List ℕ) where
  -- a node whose outflow is its inflow, if it is an inner node
  balanced-at : (v : ℕ) → 1 ≤ v → v ≤ n.nodes → (IsInnerNode n v → IsConservedAt n flows v) → is_unbalanced n flows v ≡ false
  balanced-at v from to conserved =
      ⊎_elim (λ source. rw source.0 refl)
      (λ other. ⊎_elim (λ sink. rw (other.0, sink.0) refl)
      (λ inner.
      let same = conserved (record { node = record { from_one = from; to_last = to }; not_source = other.1; not_sink = inner.1 }) in
      rw (other.0, inner.0, eq-eqb _ _ same) refl)
      (eqb_tells v n.sink))
      (eqb_tells v n.source)

  -- a flow is balanced
  pub none-unbalanced : IsFlow n flows → first_unbalanced n flows ≡ None
  none-unbalanced flow =
      find-none (is_unbalanced n flows) 1 n.nodes
      (λ v from below. balanced-at v from (omega (arith, below)) (flow.conserved v))

  -- the least unbalanced node
  least-unbalanced : (v : ℕ) → IsLeast (IsUnbalanced n flows) v → first_unbalanced n flows ≡ Some v
  least-unbalanced v least =
      let inner = least.holds.inner in
      let from = inner.node.from_one in
      let to = inner.node.to_last in
      find-least (is_unbalanced n flows) 1 n.nodes v from (omega (arith, to))
      (rw (ne_eqb v n.source inner.not_source, ne_eqb v n.sink inner.not_sink, ne_eqb (outflow n.arcs flows v) (inflow n.arcs flows v) least.holds.differ) refl)
      (λ i past before. balanced-at i past (omega (arith, to, before))
      (λ inner. ⊎_elim (λ same. same.1) (λ differ. absurd (least.least i before (record { inner = inner; differ = differ.1 })))
      (eqb_tells (outflow n.arcs flows i) (inflow n.arcs flows i))))

  -- ---- the fault

  -- A flow over a capacity is told, with the first such arc.
  pub fault-over : (j : ℕ) → IsLeast (IsOverCapacity n.arcs flows) j → flow_fault n flows ≡ Some (OverCapacity j)
  fault-over j least = rw (least-over n.arcs flows j least) refl

  -- If there is none, a node that does not conserve flow is told, the least one.
  pub fault-unbalanced : (v : ℕ) → AreWithinCapacities n.arcs flows → IsLeast (IsUnbalanced n flows) v → flow_fault n flows ≡ Some (NotConserved v)
  fault-unbalanced v within least = rw (none-over n.arcs flows within, least-unbalanced v least) refl

  -- If there is none either, a value below 0 is told.
  pub fault-negative : IsFlow n flows → flow_value n flows <ℤ pos 0 → flow_fault n flows ≡ Some Negative
  fault-negative flow less = rw (none-over n.arcs flows flow.within, none-unbalanced flow, int-below (flow_value n flows) less) refl

  -- A state's flow has no fault.
  pub fault-none : IsState (record { network = n; flows = flows }) → flow_fault n flows ≡ None
  fault-none state = rw (none-over n.arcs flows state.flow.within, none-unbalanced state.flow, int-from_zero (flow_value n flows) state.value_from_zero) refl
