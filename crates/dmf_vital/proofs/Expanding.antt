-- A search expands a node: it looks at each arc of the node's chain, and so at each node that is reached.
use Rattle.std.proofs.Common.{ℕ, ◌≡◌, ◌≢◌, ◌+◌, ◌-◌, ◌<◌, ◌≤◌, Bool, List, length, get_or, ap, sym, ◌∙◌, subst, arith, ⊎_elim}
use Rattle.std.proofs.lemmas.Bool.{cases_eq, cases_lt}
use Rattle.std.proofs.lemmas.List.{get_or_read}
use Rattle.dmf_node.specs.Node.{IsNode}
use Rattle.dmf_state.specs.Network.{Network, arc_number}
use Rattle.dmf_state.proofs.ChangedArc.{has_arc-within}
use Rattle.dmf_vital.specs.declared.exits.Exits.{Exits}
use Rattle.dmf_vital.specs.declared.tree.Reached.{Reached}
use Rattle.dmf_vital.specs.Chains.{AreChains}
use Rattle.dmf_vital.specs.Hop.{from_of}
use Rattle.dmf_vital.specs.Tree.{at_node, place_of, back_of, AreListed, IsGrown, KeepsReached, LeadsToReached, IsExpanded, AreExpanded}
use Rattle.dmf_vital.proofs.Keeping.{back-kept, kept-in_turn, kept-none, leads-kept, place-kept}

-- ---- the steps over the arcs of a chain

module _ (n : Network) (flows : List ℕ) (e : Exits) (back against : Bool) (last before : List ℕ) (chains : AreChains against n.nodes n.arcs last before) (v : ℕ)
    (node : IsNode n.nodes v) where
  -- Past the last arc of the chain there is none from the node.
  pub looked-none : (nodes : List Reached) (i : ℕ) → get_or last (v - 1) 0 < i → LeadsToReached n flows e nodes back against v i
  looked-none nodes i past there other from room =
      let at = has_arc-within n i there in
      absurd ((chains.last_is v node).none_between i past (omega (arith, at.0, at.1)) from)

  -- The arc before one of the chain is the next one that is from the node.
  pub looked-next : (nodes : List Reached) (k : ℕ) → 0 < k → k ≤ length n.arcs → from_of against (arc_number n k) ≡ v
      → ((i : ℕ) → k < i → LeadsToReached n flows e nodes back against v i) → LeadsToReached n flows e nodes back against v k
      → (i : ℕ) → get_or before (k - 1) 0 < i → LeadsToReached n flows e nodes back against v i
  looked-next nodes k some most own later here i past = ⊎_elim
      (λ (less : i < k). λ there other from room.
      let index : k - 1 + 1 ≡ k = omega (arith, some) in
      let is = chains.before_is (k - 1) (omega (arith, some, most)) in
      absurd (is.none_between i past (omega (arith, index, less)) (from ∙ sym own)))
      (λ (more : k ≤ i). ⊎_elim
      (λ (same : i ≡ k). subst (LeadsToReached n flows e nodes back against v) (sym same) here)
      (λ (apart : i ≢ k). later i (omega (arith, more, apart)))
      (cases_eq i k))
      (cases_lt i k)

  -- It is an arc of the network, from the same node.
  pub before-within : (k : ℕ) → 0 < k → k ≤ length n.arcs → get_or before (k - 1) 0 < k
  before-within k some most = let is = chains.before_is (k - 1) (omega (arith, some, most)) in omega (arith, is.below, some)

  pub before-own : (k : ℕ) → 0 < k → k ≤ length n.arcs → from_of against (arc_number n k) ≡ v → 0 < get_or before (k - 1) 0
      → from_of against (arc_number n (get_or before (k - 1) 0)) ≡ v
  before-own k some most own left = (chains.before_is (k - 1) (omega (arith, some, most))).own left ∙ own

  pub last-within : get_or last (v - 1) 0 ≤ length n.arcs
  last-within = omega (arith, (chains.last_is v node).below)

  pub last-own : 0 < get_or last (v - 1) 0 → from_of against (arc_number n (get_or last (v - 1) 0)) ≡ v
  last-own some = (chains.last_is v node).own some

-- ---- expanding a node

-- The arcs past the present one are looked at.
pub record IsExpanding (n : Network) (flows : List ℕ) (e : Exits) (back against : Bool) (v width : ℕ) (start nodes : List Reached) (found : List ℕ) (arc : ℕ) : Type 0 where
  pub grown : IsGrown n flows e nodes found
  pub kept : KeepsReached start nodes
  pub wide : width ≡ (at_node nodes v).width
  pub end : back_of nodes v ≡ back
  pub within : arc ≤ length n.arcs
  pub own : 0 < arc → from_of against (arc_number n arc) ≡ v
  pub looked : (i : ℕ) → arc < i → LeadsToReached n flows e nodes back against v i

module _ (n : Network) (flows : List ℕ) (e : Exits) (back against : Bool) (last before : List ℕ) (chains : AreChains against n.nodes n.arcs last before) (v width : ℕ)
    (node : IsNode n.nodes v) (start : List Reached) (reached : 0 < place_of start v) (from_end : back_of start v ≡ back) where
  pub expanding-none : (found : List ℕ) (arc : ℕ) → IsGrown n flows e start found → width ≡ (at_node start v).width → arc ≡ get_or last (v - 1) 0
      → IsExpanding n flows e back against v width start start found arc
  expanding-none found arc grown wide is = record {
    grown = grown;
    kept = kept-none start;
    wide = wide;
    end = from_end;
    within = omega (arith, is, last-within n flows e back against last before chains v node);
    own = λ some. subst (λ k. from_of against (arc_number n k) ≡ v) (sym is) (last-own n flows e back against last before chains v node (omega (arith, some, is)));
    looked = λ i past. looked-none n flows e back against last before chains v node start i (omega (arith, past, is));
  }

  pub expanding-smaller : (arc next : ℕ) → arc ≢ 0 → arc ≤ length n.arcs → next ≡ get_or before (arc - 1) 0 → next < arc
  expanding-smaller arc next some within is = omega (arith, is, before-within n flows e back against last before chains v node arc (omega (arith, some)) within)

  -- the next arc, when the step over the present one leads to a reached node or is left out
  pub expanding-next : (old nodes : List Reached) (before_found found : List ℕ) (arc next : ℕ) → arc ≢ 0 → next ≡ get_or before (arc - 1) 0
      → IsExpanding n flows e back against v width start old before_found arc → IsGrown n flows e nodes found → KeepsReached old nodes
      → LeadsToReached n flows e nodes back against v arc → IsExpanding n flows e back against v width start nodes found next
  expanding-next old nodes before_found found arc next some is expanding grown kept here =
      let positive : 0 < arc = omega (arith, some) in
      let own = expanding.own positive in
      let in_old : 0 < place_of old v = omega (arith, reached, place-kept start old v expanding.kept reached) in
      let smaller = expanding-smaller arc next some expanding.within is in
      let later : (i : ℕ) → arc < i → LeadsToReached n flows e nodes back against v i = λ i past.
      leads-kept n flows e old nodes back against v i kept (expanding.looked i past) in
      record {
        grown = grown;
        kept = kept-in_turn start old nodes expanding.kept kept;
        wide = expanding.wide ∙ sym (ap (λ (r : Reached). r.width) (kept v in_old));
        end = back-kept old nodes v kept in_old ∙ expanding.end;
        within = omega (arith, smaller, expanding.within);
        own = λ left. subst (λ k. from_of against (arc_number n k) ≡ v) (sym is)
            (before-own n flows e back against last before chains v node arc positive expanding.within own (omega (arith, left, is)));
        looked = λ i past. looked-next n flows e back against last before chains v node nodes arc positive expanding.within own later here i (omega (arith, past, is));
      }

-- ---- the whole search

-- A node in one of the first places was reached before the list grew.
pub reached-before : (count : ℕ) (old nodes : List Reached) (found longer : List ℕ) (v : ℕ) → AreListed count old found → AreListed count nodes longer
    → KeepsReached old nodes → IsNode count v → 0 < place_of nodes v → place_of nodes v ≤ length found → place_of old v ≡ place_of nodes v
reached-before count old nodes found longer v was are kept node some within =
    let p : ℕ = place_of nodes v in
    let at = was.listed (p - 1) (omega (arith, some, within)) in
    let u : ℕ = get_or found (p - 1) 0 in
    let place : place_of old u ≡ p = omega (arith, at.1, some) in
    let same = place-kept old nodes u kept (omega (arith, place, some)) in
    let first = (are.placed v node some).1 in
    let second = (are.placed u at.0 (omega (arith, same, place, some))).1 in
    let index : place_of nodes u - 1 ≡ p - 1 = omega (arith, same, place) in
    let is : u ≡ v = sym second ∙ ap (λ i. get_or longer i 0) index ∙ first in
    ap (place_of old) (sym is) ∙ place

-- One more node is expanded, or the next one was reached from the other end.
pub expanded-more : (n : Network) (flows : List ℕ) (e : Exits) (back : Bool) (k v : ℕ) (old nodes : List Reached) (found longer : List ℕ)
    → IsGrown n flows e old found → IsGrown n flows e nodes longer → KeepsReached old nodes → k < length found → v ≡ get_or found k 0
    → AreExpanded n flows e old back k → (back_of nodes v ≡ back → IsExpanded n flows e nodes back v) → AreExpanded n flows e nodes back (k + 1)
expanded-more n flows e back k v old nodes found longer was grown kept h is before here u node some end within =
    let place = reached-before n.nodes old nodes found longer u was.are grown.are kept node some (omega (arith, within, h)) in
    let some_old : 0 < place_of old u = omega (arith, place, some) in
    ⊎_elim
    (λ (now : k < place_of nodes u).
    let at = (was.are.placed u node some_old).1 in
    let index : place_of old u - 1 ≡ k = omega (arith, place, now, within) in
    let same : v ≡ u = is ∙ ap (λ i. get_or found i 0) (sym index) ∙ at in
    subst (IsExpanded n flows e nodes back) same (here (ap (back_of nodes) same ∙ end)))
    (λ (earlier : place_of nodes u ≤ k).
    let expanded = before u node some_old (sym (back-kept old nodes u kept some_old) ∙ end) (omega (arith, place, earlier)) in
    λ against i. leads-kept n flows e old nodes back against u i kept (expanded against i))
    (cases_lt k (place_of nodes u))

-- If all nodes in the list are looked at, all that were reached from this end are expanded.
pub expanded-all : (n : Network) (flows : List ℕ) (e : Exits) (back : Bool) (k : ℕ) (nodes : List Reached) (found : List ℕ) → IsGrown n flows e nodes found
    → AreExpanded n flows e nodes back k → length found ≤ k → (v : ℕ) → IsNode n.nodes v → 0 < place_of nodes v → back_of nodes v ≡ back
    → IsExpanded n flows e nodes back v
expanded-all n flows e back k nodes found grown expanded long v node some end = expanded v node some end (omega (arith, (grown.are.placed v node some).0, long))

-- The next node of the list is reached.
pub found-next : (n : Network) (flows : List ℕ) (e : Exits) (k v : ℕ) (nodes : List Reached) (found : List ℕ) → IsGrown n flows e nodes found → k < length found
    → v ≡ get_or found k v → IsNode n.nodes v × (0 < place_of nodes v) × (v ≡ get_or found k 0)
found-next n flows e k v nodes found grown h read =
    let is : v ≡ get_or found k 0 = get_or_read found k v h read 0 in
    let at = grown.are.listed k h in
    let place : place_of nodes v ≡ k + 1 = ap (place_of nodes) is ∙ at.1 in
    (subst (IsNode n.nodes) (sym is) at.0, omega (arith, place), is)

-- The list of reached nodes never gets shorter.
pub longer-kept : (n : Network) (flows : List ℕ) (e : Exits) (old nodes : List Reached) (found longer : List ℕ) → IsGrown n flows e old found
    → IsGrown n flows e nodes longer → KeepsReached old nodes → length found ≤ length longer
longer-kept n flows e old nodes found longer was grown kept = ⊎_elim
    (λ (some : 0 < length found).
    let k : ℕ = length found - 1 in
    let at = was.are.listed k (omega (arith, some)) in
    let u : ℕ = get_or found k 0 in
    let same = place-kept old nodes u kept (omega (arith, at.1)) in
    let place = grown.are.placed u at.0 (omega (arith, same, at.1)) in
    omega (arith, place.0, same, at.1, some))
    (λ (none : length found ≤ 0). omega (arith, none))
    (cases_lt 0 (length found))
