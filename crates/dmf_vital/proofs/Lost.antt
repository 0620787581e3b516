-- From what is left on the exits to what is lost without an arc or a node.
use Rattle.std.proofs.Common.{ℕ, ◌≡◌, ◌≢◌, ◌+◌, ◌-◌, ◌*◌, ◌<◌, ◌≤◌, not, true, List, refl, ap, sym, ◌∙◌, subst, arith, ⊎_elim, Result, Ok, Err, IfOk}
use Rattle.std.proofs.lemmas.Bool.{and_from, cases_lt, eq-eqb, ne_eqb}
use Rattle.std.specs.Borrow.{Bor}
use Rattle.dmf_node.specs.Node.{IsNode}
use Rattle.dmf_state.specs.Flow.{IsInnerNode, flow_on}
use Rattle.dmf_state.specs.Network.{Network, IsNetwork, arc_number, has_arc}
use Rattle.dmf_state.specs.Arc.{no_arc}
use Rattle.dmf_state.proofs.ChangedArc.{has_arc-within}
use Rattle.dmf_vital.specs.declared.exits.Exits.{Exits}
use Rattle.dmf_vital.specs.Exits.{AreExits, exit_flow, is_exit}
use Rattle.dmf_vital.specs.Kept.{HoldsNode, HoldsTail}
use Rattle.dmf_vital.specs.Loss.{IsLossOfArc, IsLossOfNode}
use Rattle.dmf_vital.specs.Shifted.{IsLeft}
use Rattle.dmf_vital.proofs.Bounds.{idle-loses_nothing}
use Rattle.dmf_vital.proofs.Held.{held-flow_is_lost}
use Rattle.dmf_vital.proofs.HeldNode.{held-node_flow_is_lost, idle-node_loses_nothing}
use Rattle.dmf_vital.proofs.Summed.{exit-off, exit-only, off-tail}

-- ---- one arc

-- the one exit
abbrev pub exits_of_arc : Bor (List ℕ) → ℕ → ℕ → Exits
exits_of_arc ranks tail j = record { node = tail; arc = j; ranks = ranks }

pub are-exits_of_arc : (n : Network) (ranks : Bor (List ℕ)) (j tail : ℕ) → IsNetwork n → has_arc n j ≡ true → tail ≡ (arc_number n j).tail
    → (arc_number n j).tail ≢ (arc_number n j).head → AreExits n (exits_of_arc ranks tail j)
are-exits_of_arc n ranks j tail network there is apart =
    let at = has_arc-within n j there in
    record {
      node = subst (IsNode n.nodes) (sym is) (network.arcs (j - 1) no_arc at.1).tail;
      is_there = λ _. there;
      tail = λ _. sym is;
      head = λ _ same. apart (sym (same ∙ is));
    }

-- The flow on the one exit is that on its arc.
pub exit_flow-arc : (n : Network) (ranks : Bor (List ℕ)) (j tail : ℕ) (flows : List ℕ) → has_arc n j ≡ true → exit_flow n (exits_of_arc ranks tail j) flows ≡ flow_on flows j
exit_flow-arc n ranks j tail flows there =
    let some : j ≢ 0 = let at = has_arc-within n j there in omega (arith, at.0) in
    let test = ne_eqb j 0 some in
    rw test refl

pub lost-arc : (n : Network) (ranks : Bor (List ℕ)) (j tail left : ℕ) → IsNetwork n → has_arc n j ≡ true → tail ≡ (arc_number n j).tail
    → IsLeft n (exits_of_arc ranks tail j) left → IsLossOfArc n j left
lost-arc n ranks j tail left network there is lost =
    let e : Exits = exits_of_arc ranks tail j in
    let some : j ≢ 0 = let at = has_arc-within n j there in omega (arith, at.0) in
    let test = ne_eqb j 0 some in
    let flow : flow_on lost.flows j ≡ left = rw test at lost.is in
    let own : is_exit n e j ≡ true = rw test (eq-eqb j j refl) in
    ⊎_elim
    (λ (carries : 0 < left).
    let held = lost.held carries in
    let holds : HoldsTail n lost.flows j held.0 = record {
      of_nodes = held.1.of_nodes;
      tail = subst (λ u. held.0 u ≡ true) is held.1.node;
      head = held.1.heads j there own (omega (arith, flow, carries));
      none_leaves = λ step listed along against inside. held.1.none_leaves step listed
          (λ i has exit.
          let only : i ≡ j = exit-only n e i some exit in
          (λ even. along (even ∙ ap (λ m. 2 * m) only), λ odd. against (odd ∙ ap (λ m. 2 * m + 1) only)))
          inside;
    } in
    subst (IsLossOfArc n j) flow (held-flow_is_lost n lost.flows j held.0 network lost.greatest there holds))
    (λ (none : left ≤ 0).
    let idle : flow_on lost.flows j ≡ 0 = omega (arith, flow, none) in
    let zero : 0 ≡ left = omega (arith, none) in
    subst (IsLossOfArc n j) zero (idle-loses_nothing n lost.flows j network lost.greatest there idle))
    (cases_lt 0 left)

-- ---- all arcs from a node

abbrev pub exits_of_node : Bor (List ℕ) → ℕ → Exits
exits_of_node ranks v = record { node = v; arc = 0; ranks = ranks }

pub are-exits_of_node : (n : Network) (ranks : Bor (List ℕ)) (v : ℕ) → IsInnerNode n v → AreExits n (exits_of_node ranks v)
are-exits_of_node n ranks v inner = record {
  node = inner.node;
  is_there = λ some. absurd (some refl);
  tail = λ some. absurd (some refl);
  head = λ some. absurd (some refl);
}

pub lost-node : (n : Network) (ranks : Bor (List ℕ)) (v left : ℕ) → IsNetwork n → IsInnerNode n v → IsLeft n (exits_of_node ranks v) left
    → IsLossOfNode n v left
lost-node n ranks v left network inner lost =
    let e : Exits = exits_of_node ranks v in
    ⊎_elim
    (λ (carries : 0 < left).
    let held = lost.held carries in
    let holds : HoldsNode n lost.flows v held.0 = record {
      of_nodes = held.1.of_nodes;
      node = held.1.node;
      heads = λ i there tail head some. held.1.heads i there
          (exit-off n e i refl ∙ and_from _ _ (eq-eqb (arc_number n i).tail v tail) (ap not (ne_eqb (arc_number n i).head v head))) some;
      none_leaves = λ step listed other inside. held.1.none_leaves step listed
          (λ i there exit. other i there (off-tail v (arc_number n i) (sym (exit-off n e i refl) ∙ exit)))
          inside;
    } in
    subst (IsLossOfNode n v) lost.is (held-node_flow_is_lost n lost.flows v held.0 network lost.greatest inner holds))
    (λ (none : left ≤ 0).
    let zero : 0 ≡ left = omega (arith, none) in
    subst (IsLossOfNode n v) zero (idle-node_loses_nothing n lost.flows v network lost.greatest inner (omega (arith, lost.is, none))))
    (cases_lt 0 left)

-- ---- results

pub if-ok : {A E : Type 0} (result : Result A E) (P Q : A → Type 0) → IfOk result P → ((x : A) → P x → Q x) → IfOk result Q
if-ok (Ok x) P Q p f = f x p
if-ok (Err e) P Q p f = tt
