-- The last pair is taken off: its links, which lie behind all others of their nodes, are spare then.
use Rattle.std.proofs.Common.{ℕ, ◌≡◌, ◌≢◌, ◌+◌, ◌-◌, ◌<◌, ◌≤◌, List, length, get_or, take, inl, inr, Some, None, refl, ap, sym, ◌∙◌, subst}
use Rattle.std.proofs.Common.{arith, length-set}
use Rattle.std.proofs.lemmas.Bool.{cases_eq, cases_lt, ne_eqb}
use Rattle.std.proofs.lemmas.List.{get_or-map, get_or-take, length-take-le, take-map}
use Rattle.std.proofs.lemmas.Option.{same_Some}
use Rattle.dmf_links.specs.declared.pair.Pair.{Pair}
use Rattle.dmf_links.specs.Links.{Links, LiesAt, IsLink, IsOf, IsSpare, AreLinks, ArePlaces, no_place, pair_at, pairs_at, tail_of}
use Rattle.dmf_links.specs.Pair.{without_room, pair_number}
use Rattle.dmf_links.specs.Stack.{IsIdle, IsTakenOff, ending_at}
use Rattle.dmf_links.proofs.spares.NodeEnds.{EndIs, end-is, at_v, at_w, elsewhere, AreLinks-ends}

module _ {l : Links} {places : List ℕ} (links : AreLinks l) (placed : ArePlaces l places) (has : 0 < length places) where
  abbrev last : ℕ
  last = length places - 1

  abbrev left : List ℕ
  left = take last places

  fewer : length left ≡ last
  fewer = length-take-le last places (omega arith)

  place-left : (k : ℕ) → k < last → get_or left k 0 ≡ get_or places k 0
  place-left k h = get_or-take last places k 0 h

  -- The pairs that are left have their links.
  pub of-left : (n : Links) → n.partners ≡ l.partners → (p k : ℕ) → IsOf n left p k → IsOf l places p k × (k < last)
  of-left n same p k of =
      let h : k < last = omega (arith, of.0, fewer) in
      let read = place-left k h in (
        (
          omega (arith, h),
          λ none. of.1 (read ∙ none),
          elim of.2 [
            | inl own ↦ inl (sym read ∙ own)
            | inr its ↦ inr (ap (λ (ps : List ℕ). get_or ps (get_or places k 0) 0) (sym same) ∙ ap (λ q. get_or n.partners q 0) (sym read) ∙ its)
          ],
        ),
        h,
      )

  pub of-kept : (n : Links) → n.partners ≡ l.partners → (p k : ℕ) → k < last → IsOf l places p k → IsOf n left p k
  of-kept n same p k h of =
      let read = place-left k h in (
        omega (arith, h, fewer),
        λ none. of.1 (sym read ∙ none),
        elim of.2 [
          | inl own ↦ inl (read ∙ own)
          | inr its ↦ inr (ap (λ (ps : List ℕ). get_or ps (get_or left k 0) 0) same ∙ ap (λ q. get_or l.partners q 0) read ∙ its)
        ],
      )

  pairs-left : (rooms : List ℕ) → pairs_at l left rooms ≡ take last (pairs_at l places rooms)
  pairs-left rooms = sym (take-map (pair_at l rooms) last places)

  -- If the last number stands for no pair, all links stay.
  pub none-off : get_or places last 0 ≡ no_place → IsTakenOff l places l left
  none-off none =
      let below : (p k : ℕ) → IsOf l places p k → k < last = λ p k of.
      let not_last : k ≢ last = λ e. of.1 (ap (λ i. get_or places i 0) e ∙ none) in
      omega (arith, of.0, not_last) in
      record {
        nodes = refl;
        first = refl;
        places_are = record {
          at_most = omega (arith, fewer, placed.at_most);
          within = λ k h there. let h = (let i : k < last = omega (arith, h, fewer) in i) in
              let within = placed.within k (omega (arith, h)) (λ none. there (place-left k h ∙ none)) in
              omega (arith, within, place-left k h);
          each = λ p h used. let found = placed.each p h used in (found.0, of-kept l refl p found.0 (below p found.0 found.1) found.1);
          used = λ p k h of. placed.used p k h (of-left l refl p k of).0;
          one = λ p j k h its of. placed.one p j k h (of-left l refl p j its).0 (of-left l refl p k of).0;
          ascending = λ v p q j k node at_p at_q h its of. placed.ascending v p q j k node at_p at_q h (of-left l refl p j its).0 (of-left l refl q k of).0;
        };
        rooms = λ rooms fit idle. fit;
        flags = λ rooms flags told. told;
        pairs = pairs-left;
        numbers = λ known are. (are.0, λ p h used. let its = are.1 p h used in of-kept l refl p _ (below p _ its) its);
      }

  module _ (there : get_or places last 0 ≢ no_place) where
    -- the link along the last pair, and that against it
    abbrev a : ℕ
    a = get_or places last 0

    abbrev b : ℕ
    b = get_or l.partners a 0

    abbrev v : ℕ
    v = tail_of l a

    abbrev w : ℕ
    w = get_or l.heads a 0

    a_in : a < length l.heads
    a_in = placed.within last (omega arith) there

    at : IsLink l a
    at = links.each a a_in

    b_in : b < length l.heads
    b_in = at.partner

    bt : IsLink l b
    bt = links.each b b_in

    of_a : IsOf l places a last
    of_a = (omega arith, there, inl refl)

    of_b : IsOf l places b last
    of_b = (omega arith, there, inr refl)

    apart : v ≢ w
    apart = at.no_loop (placed.used a last a_in of_a)

    tail_b : tail_of l b ≡ w
    tail_b = ap (λ q. get_or l.heads q 0) at.partner_back

    before-end : (x k : ℕ) → x < length l.heads → IsOf l places x k → x < get_or l.ends (tail_of l x + 1) 0
    before-end x k h of = elim (cases_lt x (get_or l.ends (tail_of l x + 1) 0)) [
      | inl less ↦ less
      | inr past ↦ absurd (placed.used x k h of past)
    ]

    -- the links then
    abbrev n : Links
    n = ending_at l a a b

    end-at : (u : ℕ) → EndIs l v w a b u
    end-at u = end-is l v w a b u links at.tail at.head apart

    -- A link behind one of the last pair is spare.
    behind : (p x : ℕ) → p < length l.heads → x < length l.heads → IsOf l places p last → tail_of l x ≡ tail_of l p → p < x → IsSpare l x
    behind p x p_in x_in of same less = elim (cases_lt x (get_or l.ends (tail_of l x + 1) 0)) [
      | inr spare ↦ spare
      | inl used ↦
          let found = placed.each x x_in (λ spare. omega (arith, spare, used)) in
          let later = placed.ascending (tail_of l p) p x last found.0 (links.each p p_in).tail (links.each p p_in).lies
          (subst (λ u. LiesAt l u x) same (links.each x x_in).lies) less of found.1 in
          absurd (omega (arith, later, found.1.0))
    ]

    -- What was spare stays so,
    stays-spare : (x : ℕ) → IsSpare l x → IsSpare n x
    stays-spare x spare = elim (end-at (tail_of l x)) [
      | at_v same end ↦ omega (arith, spare, end, before-end a last a_in of_a, ap (λ u. get_or l.ends (u + 1) 0) same)
      | at_w same end ↦ omega (arith, spare, end, before-end b last b_in of_b, ap (λ u. get_or l.ends (u + 1) 0) (same ∙ sym tail_b))
      | elsewhere not_v not_w end ↦ omega (arith, spare, end)
    ]

    -- and so are the two.
    a_spare : IsSpare n a
    a_spare = elim (end-at v) [
      | at_v same end ↦ omega (arith, end)
      | at_w same end ↦ absurd (apart same)
      | elsewhere not_v not_w end ↦ absurd (not_v refl)
    ]

    b_spare : IsSpare n b
    b_spare = elim (end-at (tail_of l b)) [
      | at_v same end ↦ absurd (apart (sym same ∙ tail_b))
      | at_w same end ↦ omega (arith, end)
      | elsewhere not_v not_w end ↦ absurd (not_w tail_b)
    ]

    -- What is spare then was spare, or is one of the two.
    data WasSpare (x : ℕ) : Type 0 where
      before : IsSpare l x → WasSpare x
      own : x ≡ a → WasSpare x
      other : x ≡ b → WasSpare x

    was-spare : (x : ℕ) → x < length l.heads → IsSpare n x → WasSpare x
    was-spare x h spare = elim (end-at (tail_of l x)) [
      | at_v same end ↦ elim (cases_eq x a) [
        | inl is ↦ own is
        | inr not_a ↦ before (behind a x a_in h of_a same (omega (arith, spare, end, not_a)))
      ]
      | at_w same end ↦ elim (cases_eq x b) [
        | inl is ↦ other is
        | inr not_b ↦ before (behind b x b_in h of_b (same ∙ sym tail_b) (omega (arith, spare, end, not_b)))
      ]
      | elsewhere not_v not_w end ↦ before (omega (arith, spare, end))
    ]

    from-first : (u : ℕ) → u ≤ l.nodes → get_or l.first u 0 ≤ get_or n.ends (u + 1) 0
    from-first u h =
        let from = links.ends_from u h in
        elim (end-at u) [
          | at_v same end ↦ omega (arith, end, at.lies.from, ap (λ x. get_or l.first x 0) same)
          | at_w same end ↦ omega (arith, end, bt.lies.from, ap (λ x. get_or l.first x 0) (same ∙ sym tail_b))
          | elsewhere not_v not_w end ↦ omega (arith, end, from)
        ]

    pub AreLinks-left : AreLinks n
    AreLinks-left = AreLinks-ends l n.ends links (length-set _ (w + 1) b ∙ length-set l.ends (v + 1) a) from-first
        (λ p h spare. elim (was-spare p h spare) [
          | before was ↦ stays-spare (get_or l.partners p 0) ((links.each p h).partner_spare was)
          | own is ↦ subst (λ x. IsSpare n (get_or l.partners x 0)) (sym is) b_spare
          | other is ↦ subst (λ x. IsSpare n (get_or l.partners x 0)) (sym is) (subst (IsSpare n) (sym at.partner_back) a_spare)
        ])
        (λ p h used. (links.each p h).no_loop (λ spare. used (stays-spare p spare)))

    -- A link that is not spare then is one of a pair that is left.
    below : (p k : ℕ) → p < length l.heads → ¬ IsSpare n p → IsOf l places p k → k < last
    below p k h used of =
        let not_last : k ≢ last = λ e.
        let own : IsOf l places p last = subst (IsOf l places p) e of in
        elim own.2 [
          | inl is ↦ used (subst (IsSpare n) is a_spare)
          | inr is ↦ used (subst (IsSpare n) is b_spare)
        ] in
        omega (arith, of.0, not_last)

    ArePlaces-left : ArePlaces n left
    ArePlaces-left = record {
      at_most = omega (arith, fewer, placed.at_most);
      within = λ k h there.
          let less : k < last = omega (arith, h, fewer) in
          let within = placed.within k (omega (arith, less)) (λ none. there (place-left k less ∙ none)) in
          omega (arith, within, place-left k less);
      each = λ p h used.
          let found = placed.each p h (λ spare. used (stays-spare p spare)) in
          (found.0, of-kept n refl p found.0 (below p found.0 h used found.1) found.1);
      used = λ p k h of spare.
          let its = of-left n refl p k of in
          elim (was-spare p h spare) [
            | before was ↦ placed.used p k h its.0 was
            | own is ↦ let same = placed.one p k last h its.0 (subst (λ x. IsOf l places x last) (sym is) of_a) in omega (arith, same, its.1)
            | other is ↦ let same = placed.one p k last h its.0 (subst (λ x. IsOf l places x last) (sym is) of_b) in omega (arith, same, its.1)
          ];
      one = λ p j k h its of. placed.one p j k h (of-left n refl p j its).0 (of-left n refl p k of).0;
      ascending = λ u p q j k node at_p at_q h its of. placed.ascending u p q j k node (record { from = at_p.from; below = at_p.below })
          (record { from = at_q.from; below = at_q.below }) h (of-left n refl p j its).0 (of-left n refl q k of).0;
    }

    -- the last pair
    abbrev pair : List ℕ → Pair
    pair rooms = record { tail = v; head = w; along = get_or rooms a 0; against = get_or rooms b 0 }

    rooms-none : (rooms : List ℕ) → IsIdle (pairs_at l places rooms) last → (get_or rooms a 0 ≡ 0) × (get_or rooms b 0 ≡ 0)
    rooms-none rooms idle =
        let read : pair_number (pairs_at l places rooms) last ≡ Some (pair rooms) =
        get_or-map (pair_at l rooms) places last 0 None (omega arith) ∙ rw (ne_eqb a no_place there) refl in
        let empty : Pair = record { tail = v; head = w; along = 0; against = 0 } in
        let same : empty ≡ pair rooms = same_Some empty (pair rooms) (ap without_room (sym read) ∙ idle ∙ read) in
        (sym (ap (λ (p : Pair). p.along) same), sym (ap (λ (p : Pair). p.against) same))

    pub is-off : IsTakenOff l places n left
    is-off = record {
      nodes = refl;
      first = refl;
      places_are = ArePlaces-left;
      rooms = λ rooms fit idle.
          let none = rooms-none rooms idle in (
            fit.0,
            fit.1,
            λ p h spare. elim (was-spare p h spare) [
              | before was ↦ fit.2 p h was
              | own is ↦ ap (λ x. get_or rooms x 0) is ∙ none.0
              | other is ↦ ap (λ x. get_or rooms x 0) is ∙ none.1
            ],
          );
      flags = λ rooms flags told. told;
      pairs = pairs-left;
      numbers = λ known are. (
        are.0,
        λ p h used.
            let its = are.1 p h (λ spare. used (stays-spare p spare)) in
            of-kept n refl p _ (below p _ h used its) its,
      );
    }
