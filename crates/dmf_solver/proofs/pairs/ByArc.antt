-- Lists of steps to which the arcs add theirs, one arc after the other.
use Rattle.std.proofs.Common.{ℕ, ◌≡◌, ◌+◌, ◌-◌, ◌*◌, ◌<◌, ◌≤◌, List, [], ◌∷◌, ◌++◌, length, get_or, zero, suc, Bool, true, false, cond, refl, subst, arith}
use Rattle.std.proofs.Common.{⊎_elim, add-zero, length-append}
use Rattle.std.specs.List.{Contains, AllPairs}
use Rattle.std.proofs.lemmas.Bool.{cases_lt, both_ways}
use Rattle.std.proofs.lemmas.List.{get_or_append_left, get_or-append_right}
use Rattle.std.proofs.lemmas.List.Elements.{Contains-get_or, Contains-append_cases, Contains-append_left, Contains-append_right}
use Rattle.dmf_state.specs.declared.arc.Arc.{Arc}
use Rattle.dmf_state.specs.Arc.{no_arc}
use Rattle.dmf_path.specs.Step.{Step}

-- The list `all j` has the steps `own` of the arcs from number `j` on.
pub record ByArc : Type 0 where
  pub own : ℕ → Arc → ℕ → List Step
  pub all : ℕ → List Arc → List ℕ → List Step
  pub none : (j : ℕ) (flows : List ℕ) → all j [] flows ≡ []
  pub short : (j : ℕ) (arc : Arc) (arcs : List Arc) → all j (arc ∷ arcs) [] ≡ []
  pub more : (j : ℕ) (arc : Arc) (arcs : List Arc) (flow : ℕ) (flows : List ℕ)
      → all j (arc ∷ arcs) (flow ∷ flows) ≡ own j arc flow ++ all (j + 1) arcs flows

-- The step is one of the arc at this index.
pub record StepAt (by : ByArc) (j : ℕ) (arcs : List Arc) (flows : List ℕ) (s : Step) : Type 0 where
  pub index : ℕ
  pub within : index < length arcs
  pub long : index < length flows
  pub has : Contains (by.own (j + index) (get_or arcs index no_arc) (get_or flows index 0)) s

-- ---- a step that is there if a test holds

-- What holds of it, if the test holds, holds of each step.
pub optional-each : {A : Type 0} (P : A → Type 0) (b : Bool) (x y : A) → (b ≡ true → P x) → Contains (cond b (x ∷ []) []) y → P y
optional-each P true x y holds c = subst P (subst (λ i. get_or (x ∷ []) i y ≡ y) (let first : c.0 ≡ 0 = omega (arith, c.1) in first) c.2) (holds refl)
optional-each P false x y holds c = absurd (omega (arith, c.1))

-- If the test holds, it is there.
pub optional-has : {A : Type 0} (b : Bool) (x : A) → b ≡ true → Contains (cond b (x ∷ []) []) x
optional-has true x holds = (0, omega arith, refl)
optional-has false x holds = absurd (both_ways false refl holds)

-- ---- the order of the ranks

-- The one step stands before the other in the order of ranks.
abbrev pub IsBefore : Step → Step → Type 0
IsBefore s t = s.rank < t.rank

-- At most one step is in this order,
pub optional-ascends : (b : Bool) (s : Step) → AllPairs IsBefore (cond b (s ∷ []) [])
optional-ascends true s = λ i k d less h. absurd (omega (arith, less, h))
optional-ascends false s = λ i k d less h. absurd (omega (arith, h))

-- and so are steps in this order with steps after them, if each of the first is before each of the others.
pub ascending-append : (xs ys : List Step) → AllPairs IsBefore xs → AllPairs IsBefore ys → ((s t : Step) → Contains xs s → Contains ys t → IsBefore s t)
    → AllPairs IsBefore (xs ++ ys)
ascending-append xs ys first second apart i k d less h =
    ⊎_elim
    (λ (inside : k < length xs).
    rw (get_or_append_left xs ys d i (omega (arith, less, inside)), get_or_append_left xs ys d k inside) (first i k d less inside))
    (λ (past : length xs ≤ k).
    let right = get_or-append_right xs ys (length xs) k d refl past in
    let within : k - length xs < length ys = omega (arith, h, past, length-append xs ys) in
    ⊎_elim
    (λ (own : i < length xs). rw (get_or_append_left xs ys d i own, right) (apart _ _ (Contains-get_or xs i d own) (Contains-get_or ys _ d within)))
    (λ (later : length xs ≤ i). rw (get_or-append_right xs ys (length xs) i d refl later, right) (second _ _ d (omega (arith, less, later)) within))
    (cases_lt i (length xs)))
    (cases_lt k (length xs))

-- ---- the steps of an arc

module _ (by : ByArc) where
  -- Each step is one of some arc,
  pub step-at : (j : ℕ) (arcs : List Arc) (flows : List ℕ) (s : Step) → Contains (by.all j arcs flows) s → StepAt by j arcs flows s
  step-at j [] flows s c = let none = rw (by.none j flows) at c in absurd (omega (arith, none.1))
  step-at j (arc ∷ arcs) [] s c = let none = rw (by.short j arc arcs) at c in absurd (omega (arith, none.1))
  step-at j (arc ∷ arcs) (flow ∷ flows) s c =
      ⊎_elim
      (λ (here : Contains (by.own j arc flow) s). record { index = 0; within = omega arith; long = omega arith; has = rw (add-zero j) here })
      (λ (later : Contains (by.all (j + 1) arcs flows) s).
      let at = step-at (j + 1) arcs flows s later in
      let place : j + 1 + at.index ≡ j + suc at.index = omega arith in
      record { index = suc at.index; within = omega (arith, at.within); long = omega (arith, at.long); has = rw place at at.has })
      (Contains-append_cases (by.own j arc flow) (by.all (j + 1) arcs flows) s (rw (by.more j arc arcs flow flows) at c))

  -- and each step of an arc is there.
  pub has-step : (j : ℕ) (arcs : List Arc) (flows : List ℕ) (s : Step) (k : ℕ) → k < length arcs → k < length flows
      → Contains (by.own (j + k) (get_or arcs k no_arc) (get_or flows k 0)) s → Contains (by.all j arcs flows) s
  has-step j [] flows s k within long c = absurd (omega (arith, within))
  has-step j (arc ∷ arcs) [] s k within long c = absurd (omega (arith, long))
  has-step j (arc ∷ arcs) (flow ∷ flows) s zero within long c =
      rw (by.more j arc arcs flow flows) (Contains-append_left (by.own j arc flow) (by.all (j + 1) arcs flows) s (rw (add-zero j) at c))
  has-step j (arc ∷ arcs) (flow ∷ flows) s (suc k) within long c =
      let place : j + suc k ≡ j + 1 + k = omega arith in
      let later = has-step (j + 1) arcs flows s k (omega (arith, within)) (omega (arith, long)) (rw place at c) in
      rw (by.more j arc arcs flow flows) (Contains-append_right (by.own j arc flow) (by.all (j + 1) arcs flows) s later)

  -- If the ranks of each arc's steps ascend, between its number's and the next one's, all ranks do.
  pub ascending-by_arc : ((j : ℕ) (arc : Arc) (flow : ℕ) → AllPairs IsBefore (by.own j arc flow))
      → ((j : ℕ) (arc : Arc) (flow : ℕ) (s : Step) → Contains (by.own j arc flow) s → (2 * j ≤ s.rank) × (s.rank < 2 * j + 2))
      → (j : ℕ) (arcs : List Arc) (flows : List ℕ) → AllPairs IsBefore (by.all j arcs flows)
  ascending-by_arc each between j [] flows = rw (by.none j flows) (λ i k d less h. absurd (omega (arith, h)))
  ascending-by_arc each between j (arc ∷ arcs) [] = rw (by.short j arc arcs) (λ i k d less h. absurd (omega (arith, h)))
  ascending-by_arc each between j (arc ∷ arcs) (flow ∷ flows) =
      rw (by.more j arc arcs flow flows)
      (ascending-append (by.own j arc flow) (by.all (j + 1) arcs flows) (each j arc flow) (ascending-by_arc each between (j + 1) arcs flows)
      (λ s t here later.
      let at = step-at (j + 1) arcs flows t later in
      omega (arith, between j arc flow s here, between _ _ _ t at.has)))
