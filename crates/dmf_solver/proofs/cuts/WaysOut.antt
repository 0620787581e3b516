-- Marked nodes keep their gates when a push is made along a path that leads back to none of them.
use Rattle.std.proofs.Common.{ℕ, ◌≡◌, ◌+◌, ◌-◌, ◌*◌, ◌<◌, ◌≤◌, ◌⊎◌, ⊎_elim, inl, inr, Bool, true, false, List, [], ◌∷◌, ◌++◌, length, zero, suc, refl, sym}
use Rattle.std.proofs.Common.{◌∙◌, ◌==◌, subst, ap, arith, Option, Some, None, cond, get_or}
use Rattle.std.specs.Prelude.{IsTrue, nat_lt}
use Rattle.std.specs.List.{Contains}
use Rattle.std.proofs.lemmas.Bool.{cases_eq, cases_Bool, false≢true}
use Rattle.std.proofs.lemmas.List.{get_or_default}
use Rattle.std.proofs.lemmas.Bool.{or_cases, eqb-true}
use Rattle.std.proofs.lemmas.List.Elements.{Contains-append_cases, Contains-append_left, Contains-push, Contains-push_cases}
use Rattle.dmf_links.specs.declared.pair.Pair.{Pair}
use Rattle.dmf_links.specs.Pair.{pair_number}
use Rattle.dmf_node.specs.Node.{IsNode}
use Rattle.dmf_path.specs.ClosedSide.{is_marked, HasWaysOut, NoneReturns}
use Rattle.dmf_path.specs.Pair.{pair_steps, steps_from, steps_of, pushed_pair, pushed_from, pushed_pairs}
use Rattle.dmf_path.specs.Path.{IsPath, has_rank}
use Rattle.dmf_path.specs.Search.{Augments, Searched}
use Rattle.dmf_path.specs.Step.{Step}
use Rattle.dmf_path.specs.declared.search.AugmentingPath.{AugmentingPath}
use Rattle.dmf_path.specs.declared.through.WaysOut.{WaysOut}
use Rattle.dmf_solver.specs.Gates.{leads_from, leads_out, AreGuarded, IsGuarded}
use Rattle.dmf_solver.specs.WaysOut.{LeadsOut}
use Rattle.dmf_solver.proofs.pairs.ByArc.{optional-each}
use Rattle.dmf_solver.proofs.cuts.Gates.{OfPair, each-step, first-not, has-room, neither, second-not, shut, some-room, stays}

some-same : {A : Type 0} {x y : A} → Some x ≡ Some y → x ≡ y
some-same same = cc

-- ---- a push along a path

-- A step is that of a link of some pair, which its rank tells.
record IsLinkOf (j : ℕ) (pairs : List (Option Pair)) (s : Step) : Type 0 where
  index : ℕ
  p : Pair
  is : pair_number pairs index ≡ Some p
  link : ((s.rank ≡ 2 * (j + index)) × (s.from ≡ p.tail) × (s.to ≡ p.head)) ⊎ ((s.rank ≡ 2 * (j + index) + 1) × (s.from ≡ p.head) × (s.to ≡ p.tail))

link-own : (j : ℕ) (pairs : List (Option Pair)) (q : Option Pair) (s : Step) → Contains (pair_steps j q) s → IsLinkOf j (q ∷ pairs) s
link-own j pairs None s c = absurd (omega (arith, c.1))
link-own j pairs (Some p) s c =
    let along : Step = record { from = p.tail; to = p.head; rank = 2 * j; room = p.along } in
    let against : Step = record { from = p.head; to = p.tail; rank = 2 * j + 1; room = p.against } in
    let Is : Step → Type 0 = λ t. IsLinkOf j (Some p ∷ pairs) t in
    ⊎_elim
    (λ (own : Contains (cond (nat_lt 0 p.along) (along ∷ []) []) s).
    optional-each Is (nat_lt 0 p.along) along s (λ room. record { index = 0; p = p; is = refl; link = inl (omega arith, refl, refl) }) own)
    (λ (own : Contains (cond (nat_lt 0 p.against) (against ∷ []) []) s).
    optional-each Is (nat_lt 0 p.against) against s (λ room. record { index = 0; p = p; is = refl; link = inr (omega arith, refl, refl) }) own)
    (Contains-append_cases (cond (nat_lt 0 p.along) (along ∷ []) []) (cond (nat_lt 0 p.against) (against ∷ []) []) s c)

link-of : (j : ℕ) (pairs : List (Option Pair)) (s : Step) → Contains (steps_from j pairs) s → IsLinkOf j pairs s
link-of j [] s c = absurd (omega (arith, c.1))
link-of j (q ∷ pairs) s c = ⊎_elim
    (λ (own : Contains (pair_steps j q) s). link-own j pairs q s own)
    (λ (later : Contains (steps_from (j + 1) pairs) s).
    let rest = link-of (j + 1) pairs s later in
    let number : j + 1 + rest.index ≡ j + suc rest.index = omega arith in
    record { index = suc rest.index; p = rest.p; is = rest.is; link = rw number at rest.link })
    (Contains-append_cases (pair_steps j q) (steps_from (j + 1) pairs) s c)

-- If a path has a rank, it has a step of that rank.
ranked : (path : List Step) (rank : ℕ) → has_rank path rank ≡ true → (s : Step) × (Contains path s × (s.rank ≡ rank))
ranked [] rank has = absurd (false≢true has)
ranked (s ∷ path) rank has = elim (or_cases (s.rank == rank) (has_rank path rank) has) [
  | inl here ↦ (s, ((0, omega arith, refl), eqb-true s.rank rank here))
  | inr later ↦ let rest = ranked path rank later in (rest.0, ((suc rest.1.0.0, omega (arith, rest.1.0.1), rest.1.0.2), rest.1.1))
]

-- The steps of a path are among all steps.
on-path : (steps path : List Step) (a b : ℕ) (s : Step) → IsPath steps a b path → Contains path s → Contains steps s
on-path steps [] a b s leads c = absurd (omega (arith, c.1))
on-path steps (t ∷ path) a b s leads (zero, within, is) = subst (Contains steps) is leads.0
on-path steps (t ∷ path) a b s leads (suc k, within, is) = on-path steps path t.to b s leads.2 (k, omega (arith, within), is)

-- A pair after a push was one before.
pushed-number : (takes_back : Bool) (j amount : ℕ) (path : List Step) (pairs : List (Option Pair)) (k : ℕ) (after : Pair)
    → pair_number (pushed_from takes_back j amount path pairs) k ≡ Some after
    → (p : Pair) × ((pair_number pairs k ≡ Some p) × (pushed_pair takes_back (j + k) amount path (Some p) ≡ Some after))
pushed-number takes_back j amount path [] k after is = absurd (cc)
pushed-number takes_back j amount path (None ∷ pairs) zero after is = absurd (cc)
pushed-number takes_back j amount path (Some p ∷ pairs) zero after is =
    let number : j + 0 ≡ j = omega arith in (p, (refl, rw number is))
pushed-number takes_back j amount path (q ∷ pairs) (suc k) after is =
    let number : j + 1 + k ≡ j + suc k = omega arith in
    rw number at (pushed-number takes_back (j + 1) amount path pairs k after is)

-- What a push can give a link is the room of its opposite: where that is not on the path, the link had room before.
was-open : (takes_back has other : Bool) (room amount : ℕ) → other ≡ false
    → 0 < room - cond has amount 0 + cond takes_back (cond other amount 0) 0 → 0 < room
was-open true has other room amount off some = let s = rw off at some in omega (arith, s)
was-open false has other room amount off some = omega (arith, some)

module _ (takes_back : Bool) (amount : ℕ) (pairs : List (Option Pair)) (start goal : ℕ) (marks : List Bool) (path : List Step)
    (leads : IsPath (steps_of pairs) start goal path)
    (once : (s : Step) → Contains path s → IsTrue (is_marked marks s.to) → IsTrue (is_marked marks s.from)) where
  -- The step of this rank on the path, if it has one, is that of pair number `1 + k`.
  step-on : (k rank : ℕ) (p : Pair) → pair_number pairs k ≡ Some p → has_rank path rank ≡ true
      → (rank ≡ 2 * (1 + k)) ⊎ (rank ≡ 2 * (1 + k) + 1)
      → (s : Step) × (Contains path s × (((rank ≡ 2 * (1 + k)) × (s.from ≡ p.tail) × (s.to ≡ p.head))
      ⊎ ((rank ≡ 2 * (1 + k) + 1) × (s.from ≡ p.head) × (s.to ≡ p.tail))))
  step-on k rank p is has which =
      let on = ranked path rank has in
      let s : Step = on.0 in
      let link = link-of 1 pairs s (on-path (steps_of pairs) path start goal s leads on.1.0) in
      let same : link.index ≡ k = omega (arith, link.link, which, on.1.1) in
      let pair : link.p ≡ p = some-same (sym link.is ∙ ap (pair_number pairs) same ∙ is) in (
        s,
        (
          on.1.0,
          elim link.link [
            | inl along ↦ inl (omega (arith, along.0, on.1.1, same), along.1 ∙ ap (λ (q : Pair). q.tail) pair, along.2 ∙ ap (λ (q : Pair). q.head) pair)
            | inr against ↦ inr (omega (arith, against.0, on.1.1, same), against.1 ∙ ap (λ (q : Pair). q.head) pair, against.2 ∙ ap (λ (q : Pair). q.tail) pair)
          ],
        ),
      )

  -- A link with room does not lead out of the marked nodes.
  Stays : ℕ → ℕ → Type 0
  Stays from to = IsTrue (is_marked marks from) → IsTrue (is_marked marks to)

  -- The opposite of a step on the path does not.
  opposite-stays : (from to : ℕ) (s : Step) → Contains path s → s.from ≡ to → s.to ≡ from → Stays from to
  unfolding Stays
  opposite-stays from to s on from_is to_is inside =
      subst (λ v. IsTrue (is_marked marks v)) from_is (once s on (subst (λ v. IsTrue (is_marked marks v)) (sym to_is) inside))

  -- If no link of a pair led out, none does after the push.
  stays-pair : (k : ℕ) (p after : Pair) → pair_number pairs k ≡ Some p → pushed_pair takes_back (1 + k) amount path (Some p) ≡ Some after
      → OfPair Stays p → OfPair Stays after
  stays-pair k p after at made had =
      rw (← some-same made) (
        (λ room. elim (cases_Bool (has_rank path (2 * (1 + k) + 1))) [
          | inl on ↦
              let s = step-on k (2 * (1 + k) + 1) p at on (inr refl) in
              elim s.1.1 [
                | inl along ↦ absurd (omega (arith, along.0))
                | inr against ↦ opposite-stays p.tail p.head s.0 s.1.0 against.1 against.2
              ]
          | inr off ↦ had.0 (was-open takes_back (has_rank path (2 * (1 + k))) (has_rank path (2 * (1 + k) + 1)) p.along amount off room)
        ]),
        (λ room. elim (cases_Bool (has_rank path (2 * (1 + k)))) [
          | inl on ↦
              let s = step-on k (2 * (1 + k)) p at on (inl refl) in
              elim s.1.1 [
                | inr against ↦ absurd (omega (arith, against.0))
                | inl along ↦ opposite-stays p.head p.tail s.0 s.1.0 along.1 along.2
              ]
          | inr off ↦ had.1 (was-open takes_back (has_rank path (2 * (1 + k) + 1)) (has_rank path (2 * (1 + k))) p.against amount off room)
        ]),
      )

  -- Before the push, by the test.
  stayed : (p : Pair) → leads_out marks (Some p) ≡ false → OfPair Stays p
  unfolding Stays
  stayed p none =
      let along = first-not (leads_from marks p.tail p.head p.along) (leads_from marks p.head p.tail p.against) none in
      let against = second-not (leads_from marks p.tail p.head p.along) (leads_from marks p.head p.tail p.against) none in (
        (λ room inside. stays (nat_lt 0 p.along) (is_marked marks p.tail) (is_marked marks p.head) along (some-room p.along room) inside),
        (λ room inside. stays (nat_lt 0 p.against) (is_marked marks p.head) (is_marked marks p.tail) against (some-room p.against room) inside),
      )

  -- After it.
  stay : (p : Pair) → OfPair Stays p → leads_out marks (Some p) ≡ false
  unfolding Stays
  stay p each = neither (leads_from marks p.tail p.head p.along) (leads_from marks p.head p.tail p.against)
      (shut (nat_lt 0 p.along) (is_marked marks p.tail) (is_marked marks p.head) (λ room. each.0 (has-room p.along room)))
      (shut (nat_lt 0 p.against) (is_marked marks p.head) (is_marked marks p.tail) (λ room. each.1 (has-room p.against room)))

  still : (k : ℕ) (pair : Option Pair) → pair_number (pushed_pairs takes_back amount path pairs) k ≡ pair
      → leads_out marks (pair_number pairs k) ≡ false → leads_out marks pair ≡ false
  still k None is none = refl
  still k (Some after) is none =
      let was = pushed-number takes_back 1 amount path pairs k after is in
      stay after (stays-pair k was.0 after was.1.0 was.1.1 (stayed was.0 (subst (λ q. leads_out marks q ≡ false) was.1.0 none)))

  pub guarded-pushed : (gates : List ℕ) → ((k : ℕ) → IsGuarded pairs marks gates k)
      → (k : ℕ) → IsGuarded (pushed_pairs takes_back amount path pairs) marks gates k
  guarded-pushed gates guarded k = elim (guarded k) [
    | inl gate ↦ inl gate
    | inr none ↦ inr (still k (pair_number (pushed_pairs takes_back amount path pairs) k) refl none)
  ]

-- ---- one more path

-- The marked nodes have the same gates after a push along a least path that leads back to none of them.
pub gates-next : (old new : Searched) (limit long : ℕ) (found : AugmentingPath) (marks : List Bool) (gates : List ℕ)
    → AreGuarded old marks gates → NoneReturns (steps_of old.pairs) old.start old.goal long marks
    → found.links ≡ long → Augments limit found old new → AreGuarded new marks gates
gates-next old new limit long found marks gates is once same augments =
    let path = augments.path in
    let leads = augments.least.leads in
    subst (λ (s : Searched). AreGuarded s marks gates) (sym augments.gives) (record {
      one_each = is.one_each;
      start_in = is.start_in;
      goal_out = is.goal_out;
      guarded = guarded-pushed old.takes_back found.amount old.pairs old.start old.goal marks path leads
          (once path leads (sym augments.links_are ∙ same)) gates is.guarded;
    })

-- ---- the ways out of a closed side

-- At most one of the two links of a pair leads out of marked nodes.
pub leads-one : {marks : List Bool} {pair : Option Pair} {from to other next : ℕ} → LeadsOut marks pair from to → LeadsOut marks pair other next
    → (from ≡ other) × (to ≡ next)
leads-one {marks} x y =
    let same : x.p ≡ y.p = some-same (sym x.is ∙ y.is) in
    let tail = ap (λ (p : Pair). p.tail) same in
    let head = ap (λ (p : Pair). p.head) same in
    elim x.link [
      | inl along ↦ elim y.link [
        | inl also ↦ (along.1 ∙ tail ∙ sym also.1, along.2 ∙ head ∙ sym also.2)
        | inr against ↦ absurd (false≢true (sym y.outside ∙ ap (is_marked marks) (against.2 ∙ sym tail ∙ sym along.1) ∙ x.inside))
      ]
      | inr against ↦ elim y.link [
        | inl along ↦ absurd (false≢true (sym y.outside ∙ ap (is_marked marks) (along.2 ∙ sym head ∙ sym against.1) ∙ x.inside))
        | inr also ↦ (against.1 ∙ head ∙ sym also.1, against.2 ∙ tail ∙ sym also.2)
      ]
    ]

module _ (search : Searched) (marks : List Bool) (gates : List ℕ) (is : AreGuarded search marks gates) where
  -- What holds of the links that lead out over gates holds of all that lead out.
  out-each : (P : ℕ → ℕ → Type 0) (k : ℕ) (p : Pair) → pair_number search.pairs k ≡ Some p
      → ((from to : ℕ) → Contains gates k → LeadsOut marks (pair_number search.pairs k) from to → P from to)
      → OfPair (λ from to. is_marked marks from ≡ true → is_marked marks to ≡ false → P from to) p
  out-each P k p at each =
      elim (is.guarded k) [
        | inl gate ↦ (
          (λ room inside outside. each p.tail p.head gate (record { p = p; is = at; link = inl (room, refl, refl); inside = inside; outside = outside })),
          (λ room inside outside. each p.head p.tail gate (record { p = p; is = at; link = inr (room, refl, refl); inside = inside; outside = outside })),
        )
        | inr none ↦
            let out : leads_out marks (Some p) ≡ false = subst (λ pair. leads_out marks pair ≡ false) at none in (
              (λ room inside outside. absurd (false≢true (sym outside ∙ stays (nat_lt 0 p.along) (is_marked marks p.tail) (is_marked marks p.head)
                  (first-not (leads_from marks p.tail p.head p.along) (leads_from marks p.head p.tail p.against) out) (some-room p.along room) inside))),
              (λ room inside outside. absurd (false≢true (sym outside ∙ stays (nat_lt 0 p.against) (is_marked marks p.head) (is_marked marks p.tail)
                  (second-not (leads_from marks p.tail p.head p.along) (leads_from marks p.head p.tail p.against) out) (some-room p.against room) inside))),
            )
      ]

  -- The ends of all links that lead out over gates are the ways out.
  pub ways-gates : (ways : WaysOut) → ((v : ℕ) → Contains ways.tails.items v → IsNode search.nodes v × (is_marked marks v ≡ true))
      → ((v : ℕ) → Contains ways.heads.items v → IsNode search.nodes v × (is_marked marks v ≡ false))
      → ((k from to : ℕ) → Contains gates k → LeadsOut marks (pair_number search.pairs k) from to
      → Contains ways.tails.items from × Contains ways.heads.items to)
      → HasWaysOut search.nodes (steps_of search.pairs) search.start search.goal ways marks
  ways-gates ways tails heads all =
      let Ends : ℕ → ℕ → Type 0 = λ from to. Contains ways.tails.items from × Contains ways.heads.items to in
      let off : (v : ℕ) → ¬ IsTrue (is_marked marks v) → is_marked marks v ≡ false = λ v out.
      elim (cases_Bool (is_marked marks v)) [ inl in_it ↦ absurd (out in_it) | inr outside ↦ outside ] in
      record {
        one_each = is.one_each;
        start_in = is.start_in;
        goal_out = is.goal_out;
        tails_in = tails;
        heads_out = λ v among. let out = heads v among in (out.0, λ in_it. false≢true (sym out.1 ∙ in_it));
        leaves = λ s c. each-step (λ from to. IsTrue (is_marked marks from) → ¬ IsTrue (is_marked marks to) → Ends from to) 1 search.pairs s (λ k p at.
            let each = out-each Ends k p at (λ from to gate leads. all k from to gate leads) in
            ((λ room inside outside. each.0 room inside (off p.head outside)), (λ room inside outside. each.1 room inside (off p.tail outside)))) c;
      }

-- ---- gate by gate

-- The ends of the links that lead out over the first `k` gates, and no others.
pub record AreEnds (search : Searched) (marks : List Bool) (gates tails heads : List ℕ) (k : ℕ) : Type 0 where
  pub tails_in : (v : ℕ) → Contains tails v → IsNode search.nodes v × (is_marked marks v ≡ true)
  pub heads_out : (v : ℕ) → Contains heads v → IsNode search.nodes v × (is_marked marks v ≡ false)
  pub each : (i from to : ℕ) → i < k → LeadsOut marks (pair_number search.pairs (get_or gates i 0)) from to → Contains tails from × Contains heads to

module _ {search : Searched} {marks : List Bool} {gates tails heads : List ℕ} {k : ℕ} (so_far : AreEnds search marks gates tails heads k) where
  -- No link leads out over the next one,
  pub ends-skip : ((from to : ℕ) → ¬ LeadsOut marks (pair_number search.pairs (get_or gates k 0)) from to)
      → AreEnds search marks gates tails heads (k + 1)
  ends-skip none = record {
    tails_in = so_far.tails_in;
    heads_out = so_far.heads_out;
    each = λ i from to low leads. elim (cases_eq i k) [
      | inl same ↦ absurd (none from to (subst (λ j. LeadsOut marks (pair_number search.pairs (get_or gates j 0)) from to) same leads))
      | inr other ↦ so_far.each i from to (omega (arith, low, other)) leads
    ];
  }

  -- or one does.
  pub ends-next : {from to : ℕ} → IsNode search.nodes from → IsNode search.nodes to → LeadsOut marks (pair_number search.pairs (get_or gates k 0)) from to
      → AreEnds search marks gates (tails ++ from ∷ []) (heads ++ to ∷ []) (k + 1)
  ends-next {from = from} {to = to} tail head link = record {
    tails_in = λ v among. elim (Contains-push_cases tails from v among) [
      | inl before ↦ so_far.tails_in v before
      | inr here ↦ subst (λ u. IsNode search.nodes u × (is_marked marks u ≡ true)) here (tail, link.inside)
    ];
    heads_out = λ v among. elim (Contains-push_cases heads to v among) [
      | inl before ↦ so_far.heads_out v before
      | inr here ↦ subst (λ u. IsNode search.nodes u × (is_marked marks u ≡ false)) here (head, link.outside)
    ];
    each = λ i next other low leads. elim (cases_eq i k) [
      | inl same ↦
          let one = leads-one link (subst (λ j. LeadsOut marks (pair_number search.pairs (get_or gates j 0)) next other) same leads) in
          (subst (λ v. Contains (tails ++ from ∷ []) v) one.0 (Contains-push tails from), subst (λ v. Contains (heads ++ to ∷ []) v) one.1 (Contains-push heads to))
      | inr before ↦
          let was = so_far.each i next other (omega (arith, low, before)) leads in
          (Contains-append_left tails (from ∷ []) next was.0, Contains-append_left heads (to ∷ []) other was.1)
    ];
  }

-- After all gates they are the ways out.
pub ends-last : {search : Searched} {marks : List Bool} {gates : List ℕ} {k : ℕ} (ways : WaysOut) → AreGuarded search marks gates
    → AreEnds search marks gates ways.tails.items ways.heads.items k → length gates ≤ k
    → HasWaysOut search.nodes (steps_of search.pairs) search.start search.goal ways marks
ends-last {search = search} {marks = marks} {gates = gates} ways is ends all = ways-gates search marks gates is ways ends.tails_in ends.heads_out (λ j from to gate leads.
    let same : get_or gates gate.0 0 ≡ j = get_or_default gates gate.0 0 j gate.1 ∙ gate.2 in
    ends.each gate.0 from to (omega (arith, gate.1, all)) (subst (λ i. LeadsOut marks (pair_number search.pairs i) from to) (sym same) leads))
