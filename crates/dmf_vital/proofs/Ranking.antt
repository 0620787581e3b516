-- Lists of the worst losses: the first of them, and that there is one such list.
use Rattle.std.proofs.Common.{ℕ, zero, suc, ◌≡◌, ◌-◌, ◌<◌, ◌≤◌, ◌⊎◌, inl, inr, List, [], ◌∷◌, length, get_or, ap, ap₂, refl, sym, subst, arith, ⊎_elim}
use Rattle.std.proofs.lemmas.Bool.{cases_lt}
use Rattle.std.proofs.lemmas.List.Elements.{All-tail}
use Rattle.std.specs.List.{Contains, All, AllPairs}
use Rattle.dmf_vital.specs.Laws.{WorstIsMostVital}
use Rattle.dmf_vital.specs.declared.worst.NumberedLoss.{NumberedLoss}
use Rattle.dmf_vital.specs.Worst.{AreWorst, IsArcLoss, IsBefore, IsWorse}

-- Numbers before numbers that are before others are before these,
pub before-trans : (a b c : NumberedLoss) → IsBefore a b → IsBefore b c → IsBefore a c
before-trans a b c ab bc = ⊎_elim
    (λ (less : a.number < b.number). ⊎_elim
    (λ (also : b.number < c.number). inl (omega (arith, less, also)))
    (λ (same : (b.number ≡ c.number) × (b.second < c.second)). inl (omega (arith, less, same.0))) bc)
    (λ (same : (a.number ≡ b.number) × (a.second < b.second)). ⊎_elim
    (λ (less : b.number < c.number). inl (omega (arith, less, same.0)))
    (λ (also : (b.number ≡ c.number) × (b.second < c.second)). inr (omega (arith, same.0, also.0), omega (arith, same.1, also.1))) bc) ab

-- and none are before themselves.
before-not : (a : NumberedLoss) → IsBefore a a → ⊥
before-not a before = ⊎_elim (λ (less : a.number < a.number). absurd (omega (arith, less)))
    (λ (same : (a.number ≡ a.number) × (a.second < a.second)). absurd (omega (arith, same.1))) before

-- A loss that is no smaller, and has numbers before, is worse.
pub worse-from : (a b : NumberedLoss) → b.loss ≤ a.loss → IsBefore a b → IsWorse a b
worse-from a b le before = ⊎_elim (λ (less : b.loss < a.loss). inl less) (λ (not_less : a.loss ≤ b.loss). inr (omega (arith, le, not_less), before)) (cases_lt b.loss a.loss)

-- What is worse than a worse one is worse,
pub worse-trans : (a b c : NumberedLoss) → IsWorse a b → IsWorse b c → IsWorse a c
worse-trans a b c ab bc = ⊎_elim
    (λ (less : b.loss < a.loss). ⊎_elim
    (λ (also : c.loss < b.loss). inl (omega (arith, less, also)))
    (λ (same : (b.loss ≡ c.loss) × IsBefore b c). inl (omega (arith, less, same.0))) bc)
    (λ (same : (a.loss ≡ b.loss) × IsBefore a b). ⊎_elim
    (λ (less : c.loss < b.loss). inl (omega (arith, less, same.0)))
    (λ (also : (b.loss ≡ c.loss) × IsBefore b c). inr (omega (arith, same.0, also.0), before-trans a b c same.1 also.1)) bc) ab

-- and none is worse than itself.
worse-not : (a : NumberedLoss) → IsWorse a a → ⊥
worse-not a worse = ⊎_elim (λ (less : a.loss < a.loss). absurd (omega (arith, less)))
    (λ (same : (a.loss ≡ a.loss) × IsBefore a a). before-not a same.1) worse

-- What is worse has no smaller loss.
pub worse-le : (a b : NumberedLoss) → IsWorse a b → b.loss ≤ a.loss
worse-le a b worse = ⊎_elim (λ (less : b.loss < a.loss). omega (arith, less)) (λ (same : (a.loss ≡ b.loss) × IsBefore a b). omega (arith, same.0)) worse

-- A listed loss is the first, or the first is worse.
listed-first : (first : NumberedLoss) (rest : List NumberedLoss) (one : NumberedLoss) → AllPairs IsWorse (first ∷ rest) → (k : ℕ)
    → k < length (first ∷ rest) → get_or (first ∷ rest) k one ≡ one → (first ≡ one) ⊎ IsWorse first one
listed-first first rest one order zero h is = inl is
listed-first first rest one order (suc k) h is = inr (subst (λ (w : NumberedLoss). IsWorse first w) is (order 0 (suc k) one (omega arith) h))

-- So is each loss of which there is such a list.
all-first : (P : NumberedLoss → Type 0) (most : ℕ) (first : NumberedLoss) (rest : List NumberedLoss) (one : NumberedLoss) → AreWorst P most (first ∷ rest)
    → P one → (first ≡ one) ⊎ IsWorse first one
all-first P most first rest one are is = ⊎_elim
    (λ (listed : Contains (first ∷ rest) one). listed-first first rest one are.in_order listed.0 listed.1 listed.2)
    (λ (past : (length (first ∷ rest) ≡ most) × All (λ (w : NumberedLoss). IsWorse w one) (first ∷ rest)). inr (past.1 0 first (omega arith)))
    (are.others one is)

-- The first of the list has the greatest loss.
pub worst-most_vital : WorstIsMostVital
worst-most_vital n most first rest are = record {
  own = (are.losses 0 first (omega arith)).1;
  most = λ i other is.
      let one : NumberedLoss = record { number = i; second = 0; loss = other } in
      ⊎_elim (λ (same : first ≡ one). omega (arith, ap (λ (w : NumberedLoss). w.loss) same)) (λ (worse : IsWorse first one). worse-le first one worse)
      (all-first (IsArcLoss n) most first rest one are (refl, is));
}

-- ---- one list

-- These losses without one.
abbrev Other : (NumberedLoss → Type 0) → NumberedLoss → NumberedLoss → Type 0
Other P first w = P w × (w ≡ first → ⊥)

-- A listed loss that is not the first is one of the rest.
listed-rest : (first : NumberedLoss) (rest : List NumberedLoss) (one : NumberedLoss) → (one ≡ first → ⊥) → (k : ℕ)
    → k < length (first ∷ rest) → get_or (first ∷ rest) k one ≡ one → Contains rest one
listed-rest first rest one apart zero h is = absurd (apart (sym is))
listed-rest first rest one apart (suc k) h is = (k, omega (arith, h), is)

-- Without the first the rest are the worst.
rest-worst : (P : NumberedLoss → Type 0) (most : ℕ) (first : NumberedLoss) (rest : List NumberedLoss) → AreWorst P most (first ∷ rest)
    → AreWorst (Other P first) (most - 1) rest
rest-worst P most first rest are = record {
  losses = λ i d h. (
    are.losses (suc i) d (omega (arith, h)),
    λ same.
        let worse : IsWorse first (get_or rest i d) = are.in_order 0 (suc i) d (omega arith) (omega (arith, h)) in
        worse-not first (subst (λ (w : NumberedLoss). IsWorse first w) same worse),
  );
  in_order = λ i j d lt h. are.in_order (suc i) (suc j) d (omega (arith, lt)) (omega (arith, h));
  at_most = omega (arith, are.at_most);
  others = λ other is. ⊎_elim
      (λ (listed : Contains (first ∷ rest) other). inl (listed-rest first rest other is.1 listed.0 listed.1 listed.2))
      (λ (past : (length (first ∷ rest) ≡ most) × All (λ (w : NumberedLoss). IsWorse w other) (first ∷ rest)).
      inr (omega (arith, past.0), All-tail (λ (w : NumberedLoss). IsWorse w other) first rest past.1))
      (are.others other is.0);
}

-- There are no worst losses only if there are no losses, or none are asked for.
none-worst : (P : NumberedLoss → Type 0) (most : ℕ) (first : NumberedLoss) (rest : List NumberedLoss) → AreWorst P most [] → AreWorst P most (first ∷ rest) → ⊥
none-worst P most first rest none are = ⊎_elim
    (λ (listed : Contains [] first). absurd (omega (arith, listed.1)))
    (λ (past : (length {A = NumberedLoss} [] ≡ most) × All (λ (w : NumberedLoss). IsWorse w first) []). absurd (omega (arith, past.0, are.at_most)))
    (none.others first (are.losses 0 first (omega arith)))

-- Of two such lists the first losses are the same.
same-first : (P : NumberedLoss → Type 0) (most : ℕ) (x : NumberedLoss) (xs : List NumberedLoss) (y : NumberedLoss) (ys : List NumberedLoss)
    → AreWorst P most (x ∷ xs) → AreWorst P most (y ∷ ys) → x ≡ y
same-first P most x xs y ys are also = ⊎_elim (λ (same : x ≡ y). same)
    (λ (worse : IsWorse x y). ⊎_elim (λ (same : y ≡ x). sym same)
    (λ (back : IsWorse y x). absurd (worse-not x (worse-trans x y x worse back)))
    (all-first P most y ys x also (are.losses 0 x (omega arith))))
    (all-first P most x xs y are (also.losses 0 y (omega arith)))

-- So there is only one such list.
pub worst-are_one : (P : NumberedLoss → Type 0) (most : ℕ) (worst other : List NumberedLoss) → AreWorst P most worst → AreWorst P most other → worst ≡ other
worst-are_one P most [] [] are also = refl
worst-are_one P most [] (y ∷ ys) are also = absurd (none-worst P most y ys are also)
worst-are_one P most (x ∷ xs) [] are also = absurd (none-worst P most x xs also are)
worst-are_one P most (x ∷ xs) (y ∷ ys) are also =
    let first = same-first P most x xs y ys are also in
    let others = subst (λ (w : NumberedLoss). AreWorst (Other P w) (most - 1) ys) (sym first) (rest-worst P most y ys also) in
    ap₂ (λ (w : NumberedLoss) (ws : List NumberedLoss). w ∷ ws) first (worst-are_one (Other P x) (most - 1) xs ys (rest-worst P most x xs are) others)
