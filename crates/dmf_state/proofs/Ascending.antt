-- Ascending lists of nodes.
use Rattle.std.proofs.Common.{length-append, ℕ, suc, ◌≡◌, ◌+◌, ◌-◌, ◌<◌, ◌≤◌, ◌⊎◌, ◌==◌, ◌↔◌, List, [], ◌∷◌, ◌++◌, length, get_or, Bool, true, false, Result}
use Rattle.std.proofs.Common.{Ok, Err, refl, ap, sym, ◌∙◌, subst, arith, ⊎_elim, inl, inr, AllPairs}
use Rattle.std.specs.Bool.{IsTrue}
use Rattle.std.specs.Result.{is_ok}
use Rattle.std.specs.Ordering.{nat_cmp}
use Rattle.std.specs.List.Sorted.{IsStrictlyIncreasing, IsBinarySearchResult}
use Rattle.std.proofs.lemmas.Bool.{both_ways, or_cases, or_left, or_right, eqb-true, eq-eqb, cases_lt, cases_eq, false_from_ne_true}
use Rattle.std.proofs.lemmas.List.{get_or_append_left}
use Rattle.std.proofs.Math.Seq.{get_or-append_seam}
use Rattle.std.proofs.lemmas.List.Folds.{list_any_at, list_any-append}
use Rattle.std.proofs.lemmas.List.Kept.{AllPairs-from_increasing}
use Rattle.std.proofs.lemmas.List.Sorted.{searched}
use Rattle.dmf_node.specs.Node.{IsNode}
use Rattle.dmf_state.specs.Side.{has_node}

-- Each node of the list has an index in it.
pub has_node-place : (ids : List ℕ) (v : ℕ) → has_node ids v ≡ true → (k : ℕ) × (k < length ids) × (get_or ids k 0 ≡ v)
has_node-place [] v has = absurd (both_ways false refl has)
has_node-place (u ∷ ids) v has = ⊎_elim
    (λ (here : (u == v) ≡ true). (0, omega arith, eqb-true u v here))
    (λ (later : has_node ids v ≡ true). let p = has_node-place ids v later in (suc p.0, omega (arith, p.1), p.2))
    (or_cases (u == v) (has_node ids v) has)

-- The number at an index of the list is a node of the list.
pub has_node-at : (ids : List ℕ) (k v : ℕ) → k < length ids → get_or ids k 0 ≡ v → has_node ids v ≡ true
has_node-at ids k v h is = list_any_at (λ u. u == v) ids k 0 h (eq-eqb (get_or ids k 0) v is)

-- The numbers ascend from each place to each later one.
abbrev pub Ascend : List ℕ → Type 0
Ascend ids = AllPairs (λ u v. u < v) ids

ascend-tail : (u : ℕ) (ids : List ℕ) → Ascend (u ∷ ids) → Ascend ids
ascend-tail u ids ascend = λ i j d earlier within. ascend (suc i) (suc j) d (omega arith) (omega arith)

-- The first number is below the others.
first-below : (u : ℕ) (ids : List ℕ) (v : ℕ) → Ascend (u ∷ ids) → has_node ids v ≡ true → u < v
first-below u ids v ascend has =
    let p = has_node-place ids v has in
    let below : u < get_or ids p.0 0 = ascend 0 (suc p.0) 0 (omega arith) (omega (arith, p.1)) in
    omega (arith, below, p.2)

first-least : (u : ℕ) (ids : List ℕ) (v : ℕ) → Ascend (u ∷ ids) → has_node (u ∷ ids) v ≡ true → u ≤ v
first-least u ids v ascend has = ⊎_elim
    (λ (here : (u == v) ≡ true). omega (arith, eqb-true u v here))
    (λ (later : has_node ids v ≡ true). omega (arith, first-below u ids v ascend later))
    (or_cases (u == v) (has_node ids v) has)

-- Each node of the one list is one of the other.
abbrev Within : List ℕ → List ℕ → Type 0
Within ids others = (v : ℕ) → has_node ids v ≡ true → has_node others v ≡ true

has-first : (u : ℕ) (ids : List ℕ) → has_node (u ∷ ids) u ≡ true
has-first u ids = or_left (u == u) (has_node ids u) (eq-eqb u u refl)

within-tail : (u : ℕ) (ids others : List ℕ) → Ascend (u ∷ ids) → Within (u ∷ ids) (u ∷ others) → Within ids others
within-tail u ids others ascend within v has = ⊎_elim
    (λ (here : (u == v) ≡ true). absurd (omega (arith, eqb-true u v here, first-below u ids v ascend has)))
    (λ (later : has_node others v ≡ true). later)
    (or_cases (u == v) (has_node others v) (within v (or_right (u == v) (has_node ids v) has)))

-- Two ascending lists with the same nodes are equal.
pub same-nodes : (ids others : List ℕ) → Ascend ids → Ascend others → Within ids others → Within others ids → ids ≡ others
same-nodes [] [] ascend rise within back = refl
same-nodes [] (w ∷ others) ascend rise within back = absurd (both_ways false refl (back w (has-first w others)))
same-nodes (u ∷ ids) [] ascend rise within back = absurd (both_ways false refl (within u (has-first u ids)))
same-nodes (u ∷ ids) (w ∷ others) ascend rise within back =
    let same : u ≡ w = omega (arith, first-least u ids w ascend (back w (has-first w others)), first-least w others u rise (within u (has-first u ids))) in
    let there : Within (u ∷ ids) (u ∷ others) = subst (λ x. Within (u ∷ ids) (x ∷ others)) (sym same) within in
    let here : Within (u ∷ others) (u ∷ ids) = subst (λ x. Within (x ∷ others) (u ∷ ids)) (sym same) back in
    let up : Ascend (u ∷ others) = subst (λ x. Ascend (x ∷ others)) (sym same) rise in
    let rest = same-nodes ids others (ascend-tail u ids ascend) (ascend-tail u others up) (within-tail u ids others ascend there)
    (within-tail u others ids up here) in
    λ i. same i ∷ rest i

-- ---- a binary search

not-descending : (ids : List ℕ) → Ascend ids → (i j : ℕ) → i ≤ j → j < length ids → get_or ids i 0 ≤ get_or ids j 0
not-descending ids ascend i j le h = ⊎_elim
    (λ (same : i ≡ j). omega (arith, ap (λ k. get_or ids k 0) same))
    (λ differ. let below : get_or ids i 0 < get_or ids j 0 = ascend i j 0 (omega (arith, le, differ)) h in omega (arith, below))
    (cases_eq i j)

-- A binary search of an ascending list decides whether the list has the node.
pub has_node-searched : (ids : List ℕ) (v : ℕ) (r : Result ℕ ℕ) → IsStrictlyIncreasing ids → IsBinarySearchResult (λ u. nat_cmp u v) ids r
    → is_ok r ≡ has_node ids v
has_node-searched ids v (Ok i) increasing is =
    let found = searched ids v (Ok i) is (not-descending ids (AllPairs-from_increasing ids increasing)) in
    sym (has_node-at ids i v found.0 found.1)
has_node-searched ids v (Err i) increasing is =
    let place = searched ids v (Err i) is (not-descending ids (AllPairs-from_increasing ids increasing)) in
    sym (false_from_ne_true (has_node ids v) (λ has.
    let p = has_node-place ids v has in
    ⊎_elim
    (λ (before : p.0 < i). omega (arith, p.2, place.1 p.0 before))
    (λ (after : i ≤ p.0). omega (arith, p.2, place.2 p.0 after p.1))
    (cases_lt p.0 i)))

-- ---- the walk over the marks of nodes

-- The list has those of the first `count` nodes that are marked, and no others, in ascending order.
pub record AreMarkedUpTo (marks : List Bool) (count : ℕ) (ids : List ℕ) : Type 0 where
  pub ascending : IsStrictlyIncreasing ids
  pub marked : (v : ℕ) → IsTrue (has_node ids v) ↔ (IsNode count v × IsTrue (get_or marks (v - 1) false))

-- A node among the first `count` is one among the first `count` + 1.
one-more : (count v : ℕ) → IsNode count v → IsNode (count + 1) v
one-more count v node = record { from_one = node.from_one; to_last = omega (arith, node.to_last) }

-- The next node is not marked.
pub marked-skip : (marks : List Bool) (count : ℕ) (ids : List ℕ) → get_or marks count false ≡ false → AreMarkedUpTo marks count ids
    → AreMarkedUpTo marks (count + 1) ids
marked-skip marks count ids unmarked are = record {
  ascending = are.ascending;
  marked = λ v. (
    λ has. let is = (are.marked v).0 has in (one-more count v is.0, is.1),
    λ is. ⊎_elim
        (λ (last : v ≡ count + 1).
        let index : v - 1 ≡ count = omega (arith, last) in
        absurd (both_ways (get_or marks count false) unmarked (sym (ap (λ k. get_or marks k false) index) ∙ is.1)))
        (λ earlier. (are.marked v).1 (record { from_one = is.0.from_one; to_last = omega (arith, is.0.to_last, earlier) }, is.1))
        (cases_eq v (count + 1)),
  );
}

-- A list stays ascending if a number that is above all others is appended.
increasing-push : (ids : List ℕ) (x : ℕ) → IsStrictlyIncreasing ids → ((v : ℕ) → has_node ids v ≡ true → v < x) → IsStrictlyIncreasing (ids ++ x ∷ [])
increasing-push ids x increasing above k h = ⊎_elim
    (λ (inside : k + 1 < length ids).
    let here = get_or_append_left ids (x ∷ []) 0 k (omega (arith, inside)) in
    let next = get_or_append_left ids (x ∷ []) 0 (k + 1) inside in
    omega (arith, here, next, increasing k inside))
    (λ (last : length ids ≤ k + 1).
    let end : k + 1 ≡ length ids = omega (arith, h, last, length-append ids (x ∷ [])) in
    let here = get_or_append_left ids (x ∷ []) 0 k (omega (arith, end)) in
    let next = ap (λ i. get_or (ids ++ x ∷ []) i 0) end ∙ get_or-append_seam ids x [] 0 in
    omega (arith, here, next, above (get_or ids k 0) (has_node-at ids k (get_or ids k 0) (omega (arith, end)) refl)))
    (cases_lt (k + 1) (length ids))

has_node-push : (ids : List ℕ) (x v : ℕ) → has_node (ids ++ x ∷ []) v ≡ true → (has_node ids v ≡ true) ⊎ (x ≡ v)
has_node-push ids x v has = ⊎_elim inl
    (λ last. inr (⊎_elim (λ here. eqb-true x v here) (λ none. absurd (both_ways false refl none)) (or_cases (x == v) false last)))
    (or_cases (has_node ids v) (has_node (x ∷ []) v) (sym (list_any-append (λ u. u == v) ids (x ∷ [])) ∙ has))

-- The next node is marked.
pub marked-push : (marks : List Bool) (count : ℕ) (ids : List ℕ) → get_or marks count false ≡ true → AreMarkedUpTo marks count ids
    → AreMarkedUpTo marks (count + 1) (ids ++ (count + 1) ∷ [])
marked-push marks count ids mark are = record {
  ascending = increasing-push ids (count + 1) are.ascending (λ v has. omega (arith, ((are.marked v).0 has).0.to_last));
  marked = λ v. (
    λ has. ⊎_elim
        (λ (before : has_node ids v ≡ true). let is = (are.marked v).0 before in (one-more count v is.0, is.1))
        (λ (last : count + 1 ≡ v).
        let index : v - 1 ≡ count = omega (arith, last) in
        (record { from_one = omega (arith, last); to_last = omega (arith, last) }, ap (λ k. get_or marks k false) index ∙ mark))
        (has_node-push ids (count + 1) v has),
    λ is. list_any-append (λ u. u == v) ids ((count + 1) ∷ []) ∙ ⊎_elim
        (λ (last : v ≡ count + 1). or_right (has_node ids v) (has_node ((count + 1) ∷ []) v)
        (or_left ((count + 1) == v) false (eq-eqb (count + 1) v (sym last))))
        (λ earlier. or_left (has_node ids v) (has_node ((count + 1) ∷ []) v)
        ((are.marked v).1 (record { from_one = is.0.from_one; to_last = omega (arith, is.0.to_last, earlier) }, is.1)))
        (cases_eq v (count + 1)),
  );
}
