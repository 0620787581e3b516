-- Either no path leads from a node to another, or there is a least path.
use Rattle.std.proofs.Common.{ℕ, ◌≡◌, ◌≢◌, ◌<◌, ◌⊎◌, List, [], ◌∷◌, ◌++◌, length, suc, zero, Contains, inl, inr, refl, ap, sym, ◌∙◌, subst, arith}
use Rattle.std.proofs.lemmas.Bool.{cases_eq, cases_lt}
use Rattle.std.proofs.lemmas.List.Elements.{Contains-append_cases}
use Rattle.dmf_path.specs.Step.{Step}
use Rattle.dmf_path.specs.Path.{IsPath, HasNoPath, ComesBefore, ranks, IsLeastPath}
use Rattle.dmf_path.proofs.paths.OneLeast.{Ascend, step-by_rank}

-- A path that leads from the one node to the other.
pub record SomePath (steps : List Step) (a b : ℕ) : Type 0 where
  pub path : List Step
  pub leads : IsPath steps a b path

-- One more step in front of the list of steps.
module _ (s : Step) (steps : List Step) where
  -- An element of the list is the first, or one of the others.
  first-or-later : (t : Step) → Contains (s ∷ steps) t → (t ≡ s) ⊎ Contains steps t
  first-or-later t has = elim (Contains-append_cases (s ∷ []) steps t has) [
    | inl c ↦ let first : c.0 ≡ 0 = omega (arith, c.1) in inl (sym (rw first at c.2))
    | inr at ↦ inr at
  ]

  -- An element of the others is one of the list.
  later : (t : Step) → Contains steps t → Contains (s ∷ steps) t
  later t has = (suc has.0, omega (arith, has.1), has.2)

  -- A path is also a path of more steps, and a path over the step is one.
  with-more : (a b : ℕ) (p : List Step) → IsPath steps a b p → IsPath (s ∷ steps) a b p
  with-more a b [] leads = leads
  with-more a b (t ∷ p) leads = (later t leads.0, leads.1, with-more t.to b p leads.2)

  by-way : (a b : ℕ) (p q : List Step) → IsPath steps a s.from p → IsPath steps s.to b q → IsPath (s ∷ steps) a b (p ++ s ∷ q)
  by-way a b [] q before after = ((0, omega arith, refl), sym before, with-more s.to b q after)
  by-way a b (t ∷ p) q before after = (later t before.0, before.1, by-way t.to b p q before.2 after)

  -- If a path leads there, one leads there without the step, or paths lead to the step and on from it without it.
  split-path : (a b : ℕ) (p : List Step) → IsPath (s ∷ steps) a b p → SomePath steps a b ⊎ (SomePath steps a s.from × SomePath steps s.to b)
  split-path a b [] leads = inl (record { path = []; leads = leads })
  split-path a b (t ∷ p) leads =
      let rest = split-path t.to b p leads.2 in
      let onward : (c : ℕ) → Contains steps t → SomePath steps t.to c → SomePath steps a c =
      λ c has some. record { path = t ∷ some.path; leads = (has, leads.1, some.leads) } in
      elim (first-or-later t leads.0) [
        | inl is ↦
            let here : SomePath steps a s.from = record { path = []; leads = sym leads.1 ∙ ap (λ u. u.from) is } in
            elim rest [ inl without ↦ inr (here, subst (λ u. SomePath steps u.to b) is without) | inr by ↦ inr (here, by.1) ]
        | inr has ↦ elim rest [ inl without ↦ inl (onward b has without) | inr by ↦ inr (onward s.from has by.0, by.1) ]
      ]

  -- no path, if none leads without the step and none over it
  no-way : (a b : ℕ) → HasNoPath steps a b → (SomePath steps a s.from × SomePath steps s.to b → ⊥) → HasNoPath (s ∷ steps) a b
  no-way a b without by p leads = elim (split-path a b p leads) [ inl found ↦ without found.path found.leads | inr both ↦ by both ]

  -- It is known where paths lead with the step, if it is known where they lead without it.
  path-with : (a b : ℕ) → HasNoPath steps a b ⊎ SomePath steps a b → HasNoPath steps a s.from ⊎ SomePath steps a s.from
      → HasNoPath steps s.to b ⊎ SomePath steps s.to b → HasNoPath (s ∷ steps) a b ⊎ SomePath (s ∷ steps) a b
  path-with a b (inr found) before after = inr (record { path = found.path; leads = with-more a b found.path found.leads })
  path-with a b (inl without) (inr p) (inr q) = inr (record { path = p.path ++ s ∷ q.path; leads = by-way a b p.path q.path p.leads q.leads })
  path-with a b (inl without) (inl none) after = inl (no-way a b without (λ both. none both.0.path both.0.leads))
  path-with a b (inl without) (inr before) (inl none) = inl (no-way a b without (λ both. none both.1.path both.1.leads))

-- Without steps a path leads to its first node only.
nowhere : (a b : ℕ) → a ≢ b → HasNoPath [] a b
nowhere a b differ [] leads = differ leads
nowhere a b differ (t ∷ p) leads = absurd (omega (arith, leads.0.1))

-- Either no path leads from the one node to the other, or one does.
pub path-or-none : (steps : List Step) (a b : ℕ) → HasNoPath steps a b ⊎ SomePath steps a b
path-or-none [] a b = elim (cases_eq a b) [ inl same ↦ inr (record { path = []; leads = same }) | inr differ ↦ inl (nowhere a b differ) ]
path-or-none (s ∷ steps) a b = path-with s steps a b (path-or-none steps a b) (path-or-none steps a s.from) (path-or-none steps s.to b)

-- The step is good, and those of a smaller rank are bad.
record FirstGood (Bad Good : Step → Type 0) (steps : List Step) : Type 0 where
  step : Step
  among : Contains steps step
  good : Good step
  before : (t : Step) → Contains steps t → t.rank < step.rank → Bad t

-- If each step is bad or good, all are bad, or there is a first good one.
first-good : (Bad Good : Step → Type 0) → ((s : Step) → Bad s ⊎ Good s) → (steps : List Step) → Ascend steps
    → ((s : Step) → Contains steps s → Bad s) ⊎ FirstGood Bad Good steps
first-good Bad Good decide [] ascend = inl (λ s has. absurd (omega (arith, has.1)))
first-good Bad Good decide (s ∷ steps) ascend = elim (decide s) [
  | inr good ↦ inr (record {
    step = s;
    among = (0, omega arith, refl);
    good = good;
    before = λ t has smaller. elim (first-or-later s steps t has) [
      | inl is ↦ absurd (omega (arith, smaller, ap (λ u. u.rank) is))
      | inr at ↦ absurd (omega (arith, smaller, ascend 0 (suc at.0) t (omega arith) (omega (arith, at.1)), ap (λ u. u.rank) at.2))
    ];
  })
  | inl bad ↦ elim (first-good Bad Good decide steps (λ i j d earlier within. ascend (suc i) (suc j) d (omega arith) (omega arith))) [
    | inl all ↦ inl (λ t has. elim (first-or-later s steps t has) [ inl is ↦ subst Bad (sym is) bad | inr at ↦ all t at ])
    | inr found ↦ inr (record {
      step = found.step;
      among = later s steps found.step found.among;
      good = found.good;
      before = λ t has smaller. elim (first-or-later s steps t has) [ inl is ↦ subst Bad (sym is) bad | inr at ↦ found.before t at smaller ];
    })
  ]
]

-- No path has `count` steps.
abbrev HasNoneOf : List Step → ℕ → ℕ → ℕ → Type 0
HasNoneOf steps count a b = (path : List Step) → IsPath steps a b path → length path ≡ count → ⊥

-- Among the paths of `count` steps, the ranks of this one come first.
record FirstOf (steps : List Step) (count a b : ℕ) : Type 0 where
  path : List Step
  leads : IsPath steps a b path
  long : length path ≡ count
  first : (other : List Step) → IsPath steps a b other → length other ≡ count → ComesBefore (ranks other) (ranks path) → ⊥

-- No path from `a` begins with this step and has `count` more.
abbrev BeginsNone : List Step → ℕ → ℕ → ℕ → Step → Type 0
BeginsNone steps count a b s = (path : List Step) → s.from ≡ a → IsPath steps s.to b path → length path ≡ count → ⊥

-- The step leaves `a`, and there is a first path of `count` steps from the step's head.
record BeginsFirst (steps : List Step) (count a b : ℕ) (s : Step) : Type 0 where
  leaves : s.from ≡ a
  onward : FirstOf steps count s.to b

begins : (steps : List Step) (count a b : ℕ) (s : Step) → HasNoneOf steps count s.to b ⊎ FirstOf steps count s.to b
    → BeginsNone steps count a b s ⊎ BeginsFirst steps count a b s
begins steps count a b s (inl none) = inl (λ path leaves leads long. none path leads long)
begins steps count a b s (inr onward) = elim (cases_eq s.from a) [
  | inl leaves ↦ inr (record { leaves = leaves; onward = onward })
  | inr elsewhere ↦ inl (λ path leaves leads long. elsewhere leaves)
]

-- no path without steps
none-of-0 : (steps : List Step) (a b : ℕ) → a ≢ b → HasNoneOf steps 0 a b
none-of-0 steps a b differ [] leads long = differ leads
none-of-0 steps a b differ (s ∷ path) leads long = absurd (omega (arith, long))

-- no path, if no step begins one
none-begun : (steps : List Step) (count a b : ℕ) → ((s : Step) → Contains steps s → BeginsNone steps count a b s) → HasNoneOf steps (suc count) a b
none-begun steps count a b all [] leads long = absurd (omega (arith, long))
none-begun steps count a b all (s ∷ path) leads long = all s leads.0 path leads.1 leads.2 (omega (arith, long))

-- No path comes before the one that takes the first step that begins one, and then the first path onward.
none-before : (steps : List Step) → Ascend steps → (count a b : ℕ) (found : FirstGood (BeginsNone steps count a b) (BeginsFirst steps count a b) steps)
    (other : List Step) → IsPath steps a b other → length other ≡ suc count → ComesBefore (ranks other) (ranks (found.step ∷ found.good.onward.path)) → ⊥
none-before steps ascend count a b found [] leads long before = absurd (omega (arith, long))
none-before steps ascend count a b found (t ∷ other) leads long before = elim before [
  | inl smaller ↦ found.before t leads.0 smaller other leads.1 leads.2 (omega (arith, long))
  | inr tails ↦
      let same : t ≡ found.step = step-by_rank steps ascend t found.step leads.0 found.among tails.0 in
      found.good.onward.first other (subst (λ u. IsPath steps u.to b other) same leads.2) (omega (arith, long)) tails.1
]

-- For each length there is no path, or a first one.
first-or-none : (steps : List Step) → Ascend steps → (count a b : ℕ) → HasNoneOf steps count a b ⊎ FirstOf steps count a b
first-or-none steps ascend zero a b = elim (cases_eq a b) [
  | inl same ↦ inr (record { path = []; leads = same; long = refl; first = λ other leads long before. before })
  | inr differ ↦ inl (none-of-0 steps a b differ)
]
first-or-none steps ascend (suc count) a b =
    elim (first-good (BeginsNone steps count a b) (BeginsFirst steps count a b)
    (λ s. begins steps count a b s (first-or-none steps ascend count s.to b)) steps ascend) [
      | inl all ↦ inl (none-begun steps count a b all)
      | inr found ↦ inr (record {
        path = found.step ∷ found.good.onward.path;
        leads = (found.among, found.good.leaves, found.good.onward.leads);
        long = ap suc found.good.onward.long;
        first = none-before steps ascend count a b found;
      })
    ]

-- The number is good, and the smaller ones are bad.
record LeastGood (Bad Good : ℕ → Type 0) : Type 0 where
  at : ℕ
  good : Good at
  before : (k : ℕ) → k < at → Bad k

-- If each number is bad or good, all below a bound are bad, or there is a least good one.
least-good : (Bad Good : ℕ → Type 0) → ((k : ℕ) → Bad k ⊎ Good k) → (bound : ℕ) → ((k : ℕ) → k < bound → Bad k) ⊎ LeastGood Bad Good
least-good Bad Good decide zero = inl (λ k below. absurd (omega (arith, below)))
least-good Bad Good decide (suc bound) = elim (least-good Bad Good decide bound) [
  | inr found ↦ inr found
  | inl all ↦ elim (decide bound) [
    | inr good ↦ inr (record { at = bound; good = good; before = all })
    | inl bad ↦ inl (λ k below. elim (cases_eq k bound) [ inl same ↦ rw same bad | inr differ ↦ all k (omega arith) ])
  ]
]

-- A least path from the one node to the other.
pub record SomeLeast (steps : List Step) (a b : ℕ) : Type 0 where
  pub path : List Step
  pub least : IsLeastPath steps a b path

-- If a path leads from the one node to the other, there is a least path.
pub least-path : (steps : List Step) → Ascend steps → (a b : ℕ) → SomePath steps a b → SomeLeast steps a b
least-path steps ascend a b some =
    elim (least-good (λ count. HasNoneOf steps count a b) (λ count. FirstOf steps count a b) (λ count. first-or-none steps ascend count a b)
    (suc (length some.path))) [
      | inl none ↦ absurd (none (length some.path) (omega arith) some.path some.leads refl)
      | inr found ↦ record {
        path = found.good.path;
        least = record {
          leads = found.good.leads;
          shortest = λ other leads. elim (cases_lt (length other) found.at) [
            | inl shorter ↦ absurd (found.before (length other) shorter other leads refl)
            | inr longer ↦ omega (arith, found.good.long)
          ];
          first = λ other leads long. found.good.first other leads (long ∙ found.good.long);
        };
      }
    ]

-- Either no path leads from the one node to the other, or there is a least path.
pub least-or-none : (steps : List Step) → Ascend steps → (a b : ℕ) → HasNoPath steps a b ⊎ SomeLeast steps a b
least-or-none steps ascend a b = elim (path-or-none steps a b) [ inl none ↦ inl none | inr some ↦ inr (least-path steps ascend a b some) ]
