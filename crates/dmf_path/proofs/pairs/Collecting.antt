-- What is collected at some indices, where there is nothing at the others.
use Rattle.std.proofs.Common.{ℕ, ◌≡◌, ◌+◌, ◌-◌, ◌<◌, ◌≤◌, zero, suc, List, [], ◌++◌, length, get_or, ap, sym, ◌∙◌, ⊎_elim, arith}
use Rattle.std.proofs.lemmas.Bool.{cases_lt}
use Rattle.std.proofs.lemmas.List.{append-nil}
use Rattle.dmf_path.specs.Search.{Covers}
use Rattle.dmf_path.proofs.pairs.Covering.{index_behind, not-before, is-out}

-- Before index `k` there is `before k`, and at it `here k`, which comes last.
module _ {A : Type 0} (before here : ℕ → List A) (next : (k : ℕ) → before (k + 1) ≡ before k ++ here k) where
  -- Where there is nothing, nothing comes in.
  stays : (n a : ℕ) → ((k : ℕ) → a ≤ k → k < a + n → here k ≡ []) → before (a + n) ≡ before a
  stays zero a none = ap before (omega arith)
  stays (suc n) a none =
      let more : a + suc n ≡ a + n + 1 = omega arith in
      ap before more ∙ next (a + n) ∙ ap (λ xs. before (a + n) ++ xs) (none (a + n) (omega arith) (omega arith)) ∙ append-nil _
      ∙ stays n a (λ k from to. none k from (omega (arith, to)))

  pub between : (a b : ℕ) → a ≤ b → ((k : ℕ) → a ≤ k → k < b → here k ≡ []) → before b ≡ before a
  between a b order none =
      let gap : a + (b - a) ≡ b = omega (arith, order) in
      ap before (sym gap) ∙ stays (b - a) a (λ k from to. none k from (omega (arith, to, order)))

  module _ (count : ℕ) (P : ℕ → Type 0) (indices : List ℕ) (covers : Covers count P indices) (out : (k : ℕ) → P k → here k ≡ []) where
    -- With what is at the next index, it is what comes before the one behind.
    pub collected-more : (i : ℕ) (xs more : List A) → i < length indices → xs ≡ before (index_behind indices i) → more ≡ here (get_or indices i 0)
        → xs ++ more ≡ before (index_behind indices (i + 1))
    collected-more i xs more h are is =
        let k = get_or indices i 0 in
        let succ : i + 1 ≡ suc i = omega arith in
        let up_to = between (index_behind indices i) k (not-before count P indices covers i h)
        (λ m from to. out m (is-out count P indices covers i m (omega (arith, h)) from (λ _. to) (omega (arith, to, covers.below i h)))) in
        rw (are, is) (ap (λ ys. ys ++ here k) (sym up_to) ∙ sym (next k)) ∙ ap (λ n. before (index_behind indices n)) (sym succ)

    -- After the last index it is all, where there is nothing from the count on.
    pub collected-whole : (i : ℕ) (xs : List A) → i ≤ length indices → length indices ≤ i → ((k : ℕ) → count ≤ k → here k ≡ [])
        → xs ≡ before (index_behind indices i) → xs ≡ before (index_behind indices i + count)
    collected-whole i xs most whole past are =
        let first = index_behind indices i in
        are
        ∙ sym (between first (first + count) (omega arith)
        (λ k from to. ⊎_elim
        (λ (within : k < count). out k (is-out count P indices covers i k most from (λ less. absurd (omega (arith, less, whole))) within))
        (λ (behind : count ≤ k). past k behind)
        (cases_lt k count)))
