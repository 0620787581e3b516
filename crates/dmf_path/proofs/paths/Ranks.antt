-- The ranks of links: two for each pair, in the order of the pairs.
use Rattle.std.proofs.Common.{ℕ, ◌≡◌, ◌≢◌, ◌+◌, ◌*◌, ◌<◌, ◌==◌, if◌then◌else◌, List, [], ◌∷◌, length, get_or, zero, suc, sym, ◌∙◌, inl, inr, arith}
use Rattle.std.proofs.lemmas.Bool.{eq-eqb, ne_eqb}
use Rattle.std.proofs.lemmas.Bool.Decides.{nat_tests}
use Rattle.dmf_node.specs.Node.{IsNode}
use Rattle.dmf_links.specs.Links.{Links, LiesAt, AreLinks, IsOf, IsSpare, ArePlaces, no_place}
use Rattle.dmf_path.proofs.paths.Steps.{rank_from, rank_of}
use Rattle.dmf_links.proofs.tables.LinkPlaces.{lies-within, partner-other}

-- The rank of a link that is not in the first pair depends on the other pairs.
rank_from-later : (l : Links) (j q : ℕ) (places : List ℕ) (p : ℕ) → ¬ IsOf l (q ∷ places) p 0 → rank_from l j (q ∷ places) p ≡ rank_from l (j + 1) places p
rank_from-later l j q places p not_of =
    let along : q ≢ no_place → q ≢ p = λ has is. not_of (omega arith, has, inl is) in
    let against : q ≢ no_place → get_or l.partners q 0 ≢ p = λ has is. not_of (omega arith, has, inr is) in
    grind (arith, nat_tests)

-- No pair before the one at index `k` has the link.
abbrev IsFirst : Links → List ℕ → ℕ → ℕ → Type 0
IsFirst l places p k = (i : ℕ) → i < k → ¬ IsOf l places p i

-- the rank of the link along or against
rank_from-of : (l : Links) (j : ℕ) (places : List ℕ) (p k : ℕ) → IsFirst l places p k → IsOf l places p k
    → rank_from l j places p ≡ (if get_or places k 0 == p then 2 * (j + k) else 2 * (j + k) + 1)
rank_from-of l j [] p k first of = absurd (omega (arith, of.0))
rank_from-of l j (q ∷ places) p zero first of = grind (arith, nat_tests, of.1, of.2)
rank_from-of l j (q ∷ places) p (suc k) first of =
    let number : j + suc k ≡ j + 1 + k = omega arith in
    rw number (rank_from-later l j q places p (first 0 (omega arith)) ∙ rank_from-of l (j + 1) places p k
    (λ i below earlier. first (suc i) (omega arith) (omega (arith, earlier.0), earlier.1, earlier.2)) (omega (arith, of.0), of.1, of.2))

-- Each link belongs to one pair only.
rank_of-of : (l : Links) (places : List ℕ) (p k : ℕ) → ArePlaces l places → p < length l.heads → IsOf l places p k
    → rank_of l places p ≡ (if get_or places k 0 == p then 2 * (1 + k) else 2 * (1 + k) + 1)
rank_of-of l places p k are within of =
    rank_from-of l 1 places p k (λ i below earlier. let same = are.one p i k within earlier of in omega (arith, same)) of

-- The rank of the link along is even.
pub rank_of-along : (l : Links) (places : List ℕ) (p k : ℕ) → ArePlaces l places → p < length l.heads → k < length places → get_or places k 0 ≢ no_place
    → get_or places k 0 ≡ p → rank_of l places p ≡ 2 * (1 + k)
rank_of-along l places p k are within low has is = rw (eq-eqb (get_or places k 0) p is) at (rank_of-of l places p k are within (low, has, inl is))

-- The rank of the link against is odd.
pub rank_of-against : (l : Links) (places : List ℕ) (p k : ℕ) → AreLinks l → ArePlaces l places → p < length l.heads → k < length places
    → get_or places k 0 ≢ no_place → get_or l.partners (get_or places k 0) 0 ≡ p → rank_of l places p ≡ 2 * (1 + k) + 1
rank_of-against l places p k links are within low has is =
    let other : get_or places k 0 ≢ p = λ same. partner-other l (get_or places k 0) links (are.within k low has) (is ∙ sym same) in
    rw (ne_eqb (get_or places k 0) p other) at (rank_of-of l places p k are within (low, has, inr is))

-- The links of a node that are not spare lie in the order of their ranks.
pub rank_of-ascends : (l : Links) (places : List ℕ) (v p q : ℕ) → AreLinks l → ArePlaces l places → IsNode l.nodes v → LiesAt l v p → LiesAt l v q
    → ¬ IsSpare l p → ¬ IsSpare l q → p < q → rank_of l places p < rank_of l places q
rank_of-ascends l places v p q links are node at_p at_q p_used q_used less =
    let p_in = lies-within l v p links node at_p in
    let q_in = lies-within l v q links node at_q in
    let j = are.each p p_in p_used in
    let k = are.each q q_in q_used in
    let below : j.0 < k.0 = are.ascending v p q j.0 k.0 node at_p at_q less j.1 k.1 in
    grind (arith, nat_tests, rank_of-of l places p j.0 are p_in j.1, rank_of-of l places q k.0 are q_in k.1)
