-- Indices that cover all but those that may be left out.
use Rattle.std.proofs.Common.{ℕ, ◌≡◌, ◌+◌, ◌-◌, ◌<◌, ◌≤◌, zero, suc, inl, inr, List, length, get_or, ap, arith}
use Rattle.std.proofs.lemmas.Bool.{cases_eq, cases_order}
use Rattle.std.specs.List.{range_with_len}
use Rattle.std.proofs.lemmas.List.FromFn.{get_or-range_with_len, length-range_with_len}
use Rattle.dmf_path.specs.Search.{Covers}

-- All indices leave nothing out.
pub covers-below : (n : ℕ) (P : ℕ → Type 0) → Covers n P (range_with_len 0 (n - 0))
covers-below n P =
    let indices : List ℕ = range_with_len 0 (n - 0) in
    let long = length-range_with_len 0 (n - 0) in
    let at : (i : ℕ) → i < n → get_or indices i 0 ≡ i = λ i h. omega (arith, get_or-range_with_len 0 (n - 0) i 0 (omega (arith, h))) in
    record {
      below = λ i h. omega (arith, at i (omega (arith, h, long)), h, long);
      ascending = λ i j before h. omega (arith, at i (omega (arith, before, h, long)), at j (omega (arith, h, long)), before);
      others = λ k h. inr (k, omega (arith, h, long), at k h);
    }

-- If more may be left out, they cover that too.
pub Covers-weaker : (n : ℕ) (P Q : ℕ → Type 0) (indices : List ℕ) → ((k : ℕ) → k < n → P k → Q k) → Covers n P indices → Covers n Q indices
Covers-weaker n P Q indices weaker covers = record {
  below = covers.below;
  ascending = covers.ascending;
  others = λ k h. elim (covers.others k h) [ inl out ↦ inl (weaker k h out) | inr has ↦ inr has ];
}

-- the index after the first `i` of these indices
abbrev pub index_behind : List ℕ → ℕ → ℕ
index_behind indices zero = 0
index_behind indices (suc i) = get_or indices i 0 + 1

module _ (count : ℕ) (P : ℕ → Type 0) (indices : List ℕ) (covers : Covers count P indices) where
  -- The first ones are before it,
  is-before : (m i : ℕ) → m < i → i ≤ length indices → get_or indices m 0 < index_behind indices i
  is-before m zero before within = absurd (omega (arith, before))
  is-before m (suc i) before within = elim (cases_eq m i) [
    | inl same ↦ rw same (omega arith)
    | inr other ↦ omega (arith, covers.ascending m i (omega arith) (omega (arith, within)))
  ]

  -- the next one is not,
  pub not-before : (i : ℕ) → i < length indices → index_behind indices i ≤ get_or indices i 0
  not-before zero h = omega arith
  not-before (suc i) h = omega (arith, covers.ascending i (suc i) (omega arith) h)

  -- and the indices between are left out.
  pub is-out : (i k : ℕ) → i ≤ length indices → index_behind indices i ≤ k → (i < length indices → k < get_or indices i 0) → k < count → P k
  is-out i k within behind before below = elim (covers.others k below) [
    | inl out ↦ out
    | inr has ↦ absurd (elim (cases_order i has.0) [
      | inl same ↦ omega (arith, has.1, has.2, before (omega (arith, same, has.1)), ap (λ n. get_or indices n 0) same)
      | inr (inl less) ↦ omega (arith, has.2, before (omega (arith, less, has.1)), covers.ascending i has.0 less has.1)
      | inr (inr more) ↦ omega (arith, has.2, behind, is-before has.0 i more within)
    ])
  ]
