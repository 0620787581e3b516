-- Gains of which some are known, and one more.
use Rattle.std.proofs.Common.{ℕ, ◌≡◌, ◌≢◌, ◌+◌, ◌<◌, Bool, true, false, List, length, get_or, set, sym, ◌∙◌, subst, arith, ⊎_elim}
use Rattle.std.proofs.lemmas.Bool.{cases_eq}
use Rattle.std.proofs.lemmas.List.{get_or-set_same, get_or-set_other}

module _ (P : ℕ → ℕ → Type 0) (gains : List ℕ) (k gain : ℕ) (inside : k < length gains) (it : P k gain) where
  own : (j : ℕ) → j ≡ k → P j (get_or (set gains k gain) j 0)
  own j here = subst (λ i. P i (get_or (set gains k gain) i 0)) (sym here) (subst (P k) (sym (get_or-set_same gains k gain 0 inside)) it)

  kept : (j : ℕ) → j ≢ k → P j (get_or gains j 0) → P j (get_or (set gains k gain) j 0)
  kept j other known = subst (P j) (sym (get_or-set_other gains k j gain 0 other)) known

  -- It gets a mark.
  pub marked : (found : List Bool) → ((j : ℕ) → get_or found j false ≡ true → P j (get_or gains j 0)) → (j : ℕ)
      → get_or (set found k true) j false ≡ true → P j (get_or (set gains k gain) j 0)
  marked found known j is =
      ⊎_elim (own j) (λ (other : j ≢ k). kept j other (known j (sym (get_or-set_other found k j true false other) ∙ is))) (cases_eq j k)

  -- It has no mark, and gets none.
  pub unmarked : (found : List Bool) → ((j : ℕ) → get_or found j false ≡ true → P j (get_or gains j 0)) → (j : ℕ)
      → get_or found j false ≡ true → P j (get_or (set gains k gain) j 0)
  unmarked found known j is = ⊎_elim (own j) (λ (other : j ≢ k). kept j other (known j is)) (cases_eq j k)

  -- Those before it are known.
  pub up-to : ((j : ℕ) → j < k → P j (get_or gains j 0)) → (j : ℕ) → j < k + 1 → P j (get_or (set gains k gain) j 0)
  up-to known j h = ⊎_elim (own j) (λ (other : j ≢ k). kept j other (known j (omega (arith, h, other)))) (cases_eq j k)

-- Those before it are known, and so is it.
pub one-more : (P : ℕ → ℕ → Type 0) (gains : List ℕ) (k : ℕ) → P k (get_or gains k 0) → ((j : ℕ) → j < k → P j (get_or gains j 0)) → (j : ℕ) → j < k + 1
    → P j (get_or gains j 0)
one-more P gains k it known j h =
    ⊎_elim (λ (here : j ≡ k). subst (λ i. P i (get_or gains i 0)) (sym here) it) (λ (other : j ≢ k). known j (omega (arith, h, other))) (cases_eq j k)
