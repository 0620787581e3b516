-- Between two nodes there is one least path: a rank determines its step, and lists of ranks are ordered.
use Rattle.std.proofs.Common.{ℕ, ◌≡◌, ◌<◌, ◌⊎◌, List, [], ◌∷◌, length, get_or, Contains, AllPairs, inl, inr, refl, ap, sym, ◌∙◌, arith}
use Rattle.std.proofs.lemmas.Bool.{cases_order}
use Rattle.std.proofs.lemmas.List.{length-map, get_or_default}
use Rattle.dmf_path.specs.Step.{Step}
use Rattle.dmf_path.specs.Path.{IsPath, ComesBefore, ranks, IsLeastPath}

-- The steps are listed in the order of their ranks, which all differ.
abbrev pub Ascend : List Step → Type 0
Ascend steps = AllPairs (λ s t. s.rank < t.rank) steps

-- a step at an earlier place has the smaller rank
rank-below : (steps : List Step) → Ascend steps → (s t : Step) (p : Contains steps s) (q : Contains steps t) → p.0 < q.0 → s.rank < t.rank
rank-below steps ascend s t p q earlier =
    let at : get_or steps p.0 t ≡ s = get_or_default steps p.0 t s p.1 ∙ p.2 in
    omega (arith, ascend p.0 q.0 t earlier q.1, ap (λ u. u.rank) at, ap (λ u. u.rank) q.2)

-- Only one step of the list has a given rank.
pub step-by_rank : (steps : List Step) → Ascend steps → (s t : Step) → Contains steps s → Contains steps t → s.rank ≡ t.rank → s ≡ t
step-by_rank steps ascend s t p q same =
    elim (cases_order p.0 q.0) [
      | inl here ↦ sym p.2 ∙ ap (λ k. get_or steps k s) here ∙ get_or_default steps q.0 s t q.1 ∙ q.2
      | inr (inl earlier) ↦ absurd (omega (arith, same, rank-below steps ascend s t p q earlier))
      | inr (inr later) ↦ absurd (omega (arith, same, rank-below steps ascend t s q p later))
    ]

-- Two lists of numbers of one length are equal, or one comes before the other.
one-before : (xs ys : List ℕ) → length xs ≡ length ys → (xs ≡ ys) ⊎ (ComesBefore xs ys ⊎ ComesBefore ys xs)
one-before [] [] long = inl refl
one-before [] (y ∷ ys) long = absurd (omega (arith, long))
one-before (x ∷ xs) [] long = absurd (omega (arith, long))
one-before (x ∷ xs) (y ∷ ys) long = elim (cases_order x y) [
  | inl same ↦ elim (one-before xs ys (omega (arith, long))) [
    | inl equal ↦ inl (cc)
    | inr (inl before) ↦ inr (inl (inr (same, before)))
    | inr (inr after) ↦ inr (inr (inr (sym same, after)))
  ]
  | inr (inl below) ↦ inr (inl (inl below))
  | inr (inr above) ↦ inr (inr (inl above))
]

-- The ranks of a path determine it.
path-by_ranks : (steps : List Step) → Ascend steps → (a b c : ℕ) (p q : List Step) → IsPath steps a c p → IsPath steps b c q → ranks p ≡ ranks q → p ≡ q
path-by_ranks steps ascend a b c [] [] leads other same = refl
path-by_ranks steps ascend a b c [] (t ∷ q) leads other same = absurd (omega (arith, ap length same))
path-by_ranks steps ascend a b c (s ∷ p) [] leads other same = absurd (omega (arith, ap length same))
path-by_ranks steps ascend a b c (s ∷ p) (t ∷ q) leads other same =
    let first = step-by_rank steps ascend s t leads.0 other.0 (cc) in
    let rest = path-by_ranks steps ascend s.to t.to c p q leads.2 other.2 (cc) in
    cc

-- Two least paths between the same nodes are equal.
pub one-least : (steps : List Step) → Ascend steps → (a b : ℕ) (p q : List Step) → IsLeastPath steps a b p → IsLeastPath steps a b q → p ≡ q
one-least steps ascend a b p q least other =
    let long : length p ≡ length q = omega (arith, least.shortest q other.leads, other.shortest p least.leads) in
    elim (one-before (ranks p) (ranks q) (simp length-map long)) [
      | inl same ↦ path-by_ranks steps ascend a a b p q least.leads other.leads same
      | inr (inl before) ↦ absurd (other.first p least.leads long before)
      | inr (inr after) ↦ absurd (least.first q other.leads (sym long) after)
    ]
