-- The lists of the nodes that a search has reached.
use Rattle.std.proofs.Common.{ℕ, ◌≡◌, ◌≢◌, ◌+◌, ◌-◌, ◌<◌, ◌≤◌, List, [], ◌∷◌, ◌++◌, length, get_or, set, ap, sym, ◌∙◌, subst, arith, ⊎_elim}
use Rattle.std.proofs.lemmas.Bool.{cases_eq, cases_lt}
use Rattle.std.proofs.lemmas.List.{get_or-set_same, get_or-set_other, length-set, get_or_append_left, get_or_push, length_push}
use Rattle.dmf_node.specs.Node.{IsNode}
use Rattle.dmf_vital.specs.declared.tree.Reached.{Reached}
use Rattle.dmf_vital.specs.Tree.{not_reached, at_node, place_of, AreListed}

-- ---- what is known of one node is set

module _ (nodes : List Reached) (v : ℕ) (now : Reached) (node : IsNode (length nodes) v) where
  -- It is known of that node,
  pub at-same : at_node (set nodes (v - 1) now) v ≡ now
  at-same = get_or-set_same nodes (v - 1) now not_reached (omega (arith, node.from_one, node.to_last))

  -- and of the others nothing changes.
  pub at-other : (u : ℕ) → IsNode (length nodes) u → u ≢ v → at_node (set nodes (v - 1) now) u ≡ at_node nodes u
  at-other u other apart =
      get_or-set_other nodes (v - 1) (u - 1) now not_reached (λ e. apart (omega (arith, e, node.from_one, other.from_one)))

-- ---- nodes are forgotten, one by one

-- The nodes that are still reached have places past `k`, the same as at first.
pub record AreForgotten (first : List Reached) (nodes : List Reached) (k : ℕ) : Type 0 where
  pub one_each : length nodes ≡ length first
  pub left : (v : ℕ) → IsNode (length first) v → 0 < place_of nodes v → (place_of nodes v ≡ place_of first v) × (k < place_of first v)

-- The next one is forgotten.
pub forgotten-more : (first nodes : List Reached) (found : List ℕ) (k : ℕ) (now : Reached) → AreListed (length first) first found → k < length found
    → now.place ≡ 0 → AreForgotten first nodes k → AreForgotten first (set nodes (get_or found k 0 - 1) now) (k + 1)
forgotten-more first nodes found k now are h none so_far =
    let v : ℕ = get_or found k 0 in
    let here = are.listed k h in
    let node : IsNode (length nodes) v = rw so_far.one_each here.0 in
    record {
      one_each = length-set nodes (v - 1) now ∙ so_far.one_each;
      left = λ u other some. ⊎_elim
          (λ (same : u ≡ v). absurd (
          let gone : place_of (set nodes (v - 1) now) u ≡ 0 =
          ap (λ w. place_of (set nodes (v - 1) now) w) same ∙ ap (λ (r : Reached). r.place) (at-same nodes v now node) ∙ none in
          omega (arith, gone, some)))
          (λ (apart : u ≢ v).
          let kept : place_of (set nodes (v - 1) now) u ≡ place_of nodes u =
          ap (λ (r : Reached). r.place) (at-other nodes v now node u (rw so_far.one_each other) apart) in
          let old = so_far.left u other (omega (arith, some, kept)) in
          let past : place_of first u ≢ k + 1 = λ e.
          let at = (are.placed u other (omega (arith, e))).1 in
          let index : place_of first u - 1 ≡ k = omega (arith, e) in
          apart (sym at ∙ ap (λ i. get_or found i 0) index) in
          (kept ∙ old.0, omega (arith, old.1, past)))
          (cases_eq u v);
    }

-- ---- a node is reached

-- No node is reached, and none is listed.
pub listed-none : (count : ℕ) (nodes : List Reached) → length nodes ≡ count → ((v : ℕ) → IsNode count v → place_of nodes v ≡ 0) → AreListed count nodes []
listed-none count nodes one_each none = record {
  one_each = one_each;
  listed = λ i h. absurd (omega (arith, h));
  placed = λ v node some. absurd (omega (arith, none v node, some));
}

-- One more node, which was not reached, goes to the end of the list.
pub listed-more : (count : ℕ) (nodes : List Reached) (found : List ℕ) (v : ℕ) (now : Reached) → IsNode count v → place_of nodes v ≡ 0
    → now.place ≡ length found + 1 → AreListed count nodes found → AreListed count (set nodes (v - 1) now) (found ++ v ∷ [])
listed-more count nodes found v now node new place are =
    let here : IsNode (length nodes) v = rw are.one_each node in
    let at : (u : ℕ) → IsNode count u → u ≢ v → place_of (set nodes (v - 1) now) u ≡ place_of nodes u =
    λ u other apart. ap (λ (r : Reached). r.place) (at-other nodes v now here u (rw are.one_each other) apart) in
    let own : place_of (set nodes (v - 1) now) v ≡ length found + 1 = ap (λ (r : Reached). r.place) (at-same nodes v now here) ∙ place in
    let long = length_push found v in
    record {
      one_each = length-set nodes (v - 1) now ∙ are.one_each;
      listed = λ i h. ⊎_elim
          (λ (old : i < length found).
          let same : get_or (found ++ v ∷ []) i 0 ≡ get_or found i 0 = get_or_append_left found (v ∷ []) 0 i old in
          let was = are.listed i old in
          let apart : get_or found i 0 ≢ v = λ e. omega (arith, was.1, ap (place_of nodes) e, new) in
          rw same (was.0, at (get_or found i 0) was.0 apart ∙ was.1))
          (λ (past : length found ≤ i).
          let index : length found ≡ i = omega (arith, h, past, long) in
          let same : get_or (found ++ v ∷ []) i 0 ≡ v = get_or_push found v 0 i index in
          rw same (node, own ∙ ap (λ m. m + 1) index))
          (cases_lt i (length found));
      placed = λ u other some. ⊎_elim
          (λ (same : u ≡ v).
          let is : place_of (set nodes (v - 1) now) u ≡ length found + 1 = ap (λ w. place_of (set nodes (v - 1) now) w) same ∙ own in
          let index : length found ≡ place_of (set nodes (v - 1) now) u - 1 = omega (arith, is) in
          (omega (arith, is, long), get_or_push found v 0 (place_of (set nodes (v - 1) now) u - 1) index ∙ sym same))
          (λ (apart : u ≢ v).
          let is = at u other apart in
          let was = are.placed u other (omega (arith, some, is)) in
          let index : place_of (set nodes (v - 1) now) u - 1 ≡ place_of nodes u - 1 = ap (λ m. m - 1) is in
          let read : get_or (found ++ v ∷ []) (place_of nodes u - 1) 0 ≡ get_or found (place_of nodes u - 1) 0 =
          get_or_append_left found (v ∷ []) 0 (place_of nodes u - 1) (omega (arith, was.0, some, is)) in
          (omega (arith, is, was.0, long), ap (λ i. get_or (found ++ v ∷ []) i 0) index ∙ read ∙ was.1))
          (cases_eq u v);
    }

-- The same, where the list could not grow.
pub listed-stay : (count : ℕ) (nodes after : List Reached) (found : List ℕ) → after ≡ nodes → found ≡ [] → length nodes ≡ count
    → ((v : ℕ) → IsNode count v → place_of nodes v ≡ 0) → AreListed count after found
listed-stay count nodes after found same empty one_each none =
    subst (λ f. AreListed count after f) (sym empty) (subst (λ m. AreListed count m []) (sym same) (listed-none count nodes one_each none))
