-- A pair is put on: two opposite spare links, the first of their nodes, become its links.
use Rattle.std.proofs.Common.{ℕ, ◌≡◌, ◌≢◌, ◌+◌, ◌^◌, ◌<◌, ◌≤◌, ◌-◌, ◌⊎◌, ◌++◌, List, [], ◌∷◌, length, get_or, suc, inl, inr, Option, Some, None, refl, ap, sym, ◌∙◌}
use Rattle.std.proofs.Common.{subst, arith, length-set}
use Rattle.std.proofs.lemmas.Bool.{cases_eq, cases_lt, eq-eqb, ne_eqb}
use Rattle.std.proofs.lemmas.List.{get_or_append_left, get_or-append_right, length-append, map-append}
use Rattle.dmf_node.specs.Node.{IsNode}
use Rattle.dmf_links.specs.declared.pair.Pair.{Pair}
use Rattle.dmf_links.specs.Links.{Links, LiesAt, IsOf, IsSpare, AreLinks, ArePlaces, AreRooms, no_place, pair_at, pairs_at, tail_of}
use Rattle.dmf_links.specs.Pair.{IsPair, without_room}
use Rattle.dmf_links.specs.Stack.{AreCoupled, IsFirstSpare, IsPutOn, ending_at, ends_set}
use Rattle.dmf_links.proofs.spares.Coupled.{AreFlags-coupled, AreLinks-coupled, ArePlaces-coupled, AreRooms-coupled, coupled-tail, of-stays, spare-stays, used-same}
use Rattle.dmf_links.proofs.tables.LinkPlaces.{lies-within}
use Rattle.dmf_links.proofs.spares.NodeEnds.{EndIs, end-is, at_v, at_w, elsewhere, AreLinks-ends}

-- The first spare link of a node lies there, and is one.
pub record IsSpareAt (l : Links) (v p : ℕ) : Type 0 where
  pub node : IsNode l.nodes v
  pub lies : LiesAt l v p
  pub within : p < length l.heads
  pub tail : tail_of l p ≡ v
  pub end_is : get_or l.ends (v + 1) 0 ≡ p
  pub spare : IsSpare l p

pub spare-at : {l : Links} (v p : ℕ) → AreLinks l → IsNode l.nodes v → IsFirstSpare l v p → IsSpareAt l v p
spare-at {l} v p links node first =
    let lies : LiesAt l v p = record { from = (let from = links.ends_from v node.to_last in omega (arith, from, first.is)); below = first.below } in
    let tail = links.at_tail v p node lies in
    record {
      node = node;
      lies = lies;
      within = lies-within l v p links node lies;
      tail = tail;
      end_is = sym first.is;
      spare = omega (arith, first.is, ap (λ u. get_or l.ends (u + 1) 0) tail);
    }

-- Two nodes have different links.
pub spares-apart : {l : Links} {v w a b : ℕ} → IsSpareAt l v a → IsSpareAt l w b → v ≢ w → a ≢ b
spares-apart {l} a b apart same = apart (sym a.tail ∙ ap (tail_of l) same ∙ b.tail)

-- The links are still spare once they are opposites.
pub spare-coupled : {l : Links} {a b : ℕ} {n : Links} {v p : ℕ} → AreLinks l → AreCoupled l a b n → IsSpareAt l v p → IsSpareAt n v p
spare-coupled {l} {n = n} {v} {p} links are at =
    let tail = coupled-tail links are p at.within ∙ at.tail in
    let end : get_or n.ends (v + 1) 0 ≡ p = ap (λ (ends : List ℕ). get_or ends (v + 1) 0) are.ends ∙ at.end_is in
    record {
      node = subst (λ (nodes : ℕ). IsNode nodes v) (sym are.nodes) at.node;
      lies = record {
        from = subst (λ (first : List ℕ). get_or first v 0 ≤ p) (sym are.first) at.lies.from;
        below = subst (λ (first : List ℕ). p < get_or first (v + 1) 0) (sym are.first) at.lies.below;
      };
      within = omega (arith, at.within, are.count);
      tail = tail;
      end_is = end;
      spare = omega (arith, end, ap (λ u. get_or n.ends (u + 1) 0) tail);
    }

-- the links with these two as those of a pair
abbrev pub used_at : Links → ℕ → ℕ → Links
used_at l a b = ending_at l a (a + 1) (b + 1)

module _ {l : Links} {v w a b : ℕ} (links : AreLinks l) (av : IsSpareAt l v a) (bw : IsSpareAt l w b) (apart : v ≢ w)
    (opposite : get_or l.partners a 0 ≡ b) where
  abbrev n : Links
  n = used_at l a b

  -- The link at `a` leads to the other node.
  head-is : get_or l.heads a 0 ≡ w
  head-is = sym (ap (λ q. get_or l.heads q 0) (links.each a av.within).partner_back) ∙ ap (tail_of l) opposite ∙ bw.tail

  back-is : get_or l.partners b 0 ≡ a
  back-is = ap (λ q. get_or l.partners q 0) (sym opposite) ∙ (links.each a av.within).partner_back

  ends-are : n.ends ≡ ends_set v (a + 1) w (b + 1) l.ends
  ends-are = ap (λ u. ends_set u (a + 1) (get_or l.heads a 0) (b + 1) l.ends) av.tail ∙ ap (λ u. ends_set v (a + 1) u (b + 1) l.ends) head-is

  end-at : (u : ℕ) → EndIs l v w (a + 1) (b + 1) u
  end-at u = end-is l v w (a + 1) (b + 1) u links av.node bw.node apart

  -- the ends of the links of a link's node
  read : (x : ℕ) → get_or n.ends (tail_of l x + 1) 0 ≡ get_or (ends_set v (a + 1) w (b + 1) l.ends) (tail_of l x + 1) 0
  read x = ap (λ (ends : List ℕ). get_or ends (tail_of l x + 1) 0) ends-are

  -- A link that is spare then was spare, and is none of the two.
  pub was-spare : (x : ℕ) → IsSpare n x → IsSpare l x × (x ≢ a) × (x ≢ b)
  was-spare x spare = elim (end-at (tail_of l x)) [
    | at_v same end ↦ (
      omega (arith, spare, read x, end, av.end_is, ap (λ u. get_or l.ends (u + 1) 0) same),
      λ e. omega (arith, spare, read x, end, e),
      λ e. apart (sym same ∙ ap (tail_of l) e ∙ bw.tail),
    )
    | at_w same end ↦ (
      omega (arith, spare, read x, end, bw.end_is, ap (λ u. get_or l.ends (u + 1) 0) same),
      λ e. apart (sym av.tail ∙ ap (tail_of l) (sym e) ∙ same),
      λ e. omega (arith, spare, read x, end, e),
    )
    | elsewhere not_v not_w end ↦ (
      omega (arith, spare, read x, end),
      λ e. not_v (ap (tail_of l) e ∙ av.tail),
      λ e. not_w (ap (tail_of l) e ∙ bw.tail),
    )
  ]

  -- The other spare links stay so.
  pub still-spare : (x : ℕ) → IsSpare l x → x ≢ a → x ≢ b → IsSpare n x
  still-spare x spare not_a not_b = elim (end-at (tail_of l x)) [
    | at_v same end ↦ omega (arith, spare, read x, end, av.end_is, ap (λ u. get_or l.ends (u + 1) 0) same, not_a)
    | at_w same end ↦ omega (arith, spare, read x, end, bw.end_is, ap (λ u. get_or l.ends (u + 1) 0) same, not_b)
    | elsewhere not_v not_w end ↦ omega (arith, spare, read x, end)
  ]

  from-first : (u : ℕ) → u ≤ l.nodes → get_or l.first u 0 ≤ get_or n.ends (u + 1) 0
  from-first u h =
      let from = links.ends_from u h in
      let here : get_or n.ends (u + 1) 0 ≡ get_or (ends_set v (a + 1) w (b + 1) l.ends) (u + 1) 0 =
      ap (λ (ends : List ℕ). get_or ends (u + 1) 0) ends-are in
      elim (end-at u) [
        | at_v same end ↦ omega (arith, here, end, av.lies.from, ap (λ x. get_or l.first x 0) same)
        | at_w same end ↦ omega (arith, here, end, bw.lies.from, ap (λ x. get_or l.first x 0) same)
        | elsewhere not_v not_w end ↦ omega (arith, here, end, from)
      ]

  pub AreLinks-used : AreLinks n
  AreLinks-used = AreLinks-ends l n.ends links
      (length-set _ (get_or l.heads a 0 + 1) (b + 1) ∙ length-set l.ends (tail_of l a + 1) (a + 1)) from-first
      (λ p h spare.
      let was = was-spare p spare in
      let link = links.each p h in
      still-spare (get_or l.partners p 0) (link.partner_spare was.0)
      (λ e. was.2 (sym link.partner_back ∙ ap (λ q. get_or l.partners q 0) e ∙ opposite))
      (λ e. was.1 (sym link.partner_back ∙ ap (λ q. get_or l.partners q 0) e ∙ back-is)))
      (λ p h used same. elim (cases_eq p a) [
        | inl own ↦ apart (sym av.tail ∙ ap (tail_of l) (sym own) ∙ same ∙ ap (λ q. get_or l.heads q 0) own ∙ head-is)
        | inr not_a ↦ elim (cases_eq p b) [
          | inl own ↦
              let leads : get_or l.heads b 0 ≡ v = ap (λ q. get_or l.heads q 0) (sym opposite) ∙ av.tail in
              apart (sym leads ∙ ap (λ q. get_or l.heads q 0) (sym own) ∙ sym same ∙ ap (tail_of l) own ∙ bw.tail)
          | inr not_b ↦ (links.each p h).no_loop (λ spare. used (still-spare p spare not_a not_b)) same
        ]
      ])

  module _ {places : List ℕ} (placed : ArePlaces l places) (few : length places ≤ 2 ^ 27) where
    abbrev after : List ℕ
    after = places ++ a ∷ []

    more : length after ≡ length places + 1
    more = length-append places (a ∷ [])

    place-before : (k : ℕ) → k < length places → get_or after k 0 ≡ get_or places k 0
    place-before k h = get_or_append_left places (a ∷ []) 0 k h

    place-last : get_or after (length places) 0 ≡ a
    place-last = get_or-append_right places (a ∷ []) (length places) (length places) 0 refl (omega arith)
        ∙ ap (λ i. get_or (a ∷ []) i 0) (let e : length places - length places ≡ 0 = omega arith in e)

    there : a ≢ no_place
    there none = omega (arith, none, av.within, links.at_most)

    -- A pair has the links that it had.
    of-before : (p k : ℕ) → IsOf l places p k → IsOf n after p k
    of-before p k of =
        let same = place-before k of.0 in (
          omega (arith, of.0, more),
          λ none. of.1 (sym same ∙ none),
          elim of.2 [
            | inl own ↦ inl (same ∙ own)
            | inr its ↦ inr (ap (λ q. get_or l.partners q 0) same ∙ its)
          ],
        )

    of-old : (p k : ℕ) → k < length places → IsOf n after p k → IsOf l places p k
    of-old p k h of =
        let same = place-before k h in (
          h,
          λ none. of.1 (same ∙ none),
          elim of.2 [
            | inl own ↦ inl (sym same ∙ own)
            | inr its ↦ inr (ap (λ q. get_or l.partners q 0) (sym same) ∙ its)
          ],
        )

    -- The new pair has the two.
    of-own : IsOf n after a (length places)
    of-own = (omega (arith, more), λ none. there (sym place-last ∙ none), inl place-last)

    of-other : IsOf n after b (length places)
    of-other = (omega (arith, more), λ none. there (sym place-last ∙ none), inr (ap (λ q. get_or l.partners q 0) place-last ∙ opposite))

    -- It is an old link of an old pair, or one of the two.
    data IsOwner (p k : ℕ) : Type 0 where
      old : k < length places → IsOf l places p k → ¬ IsSpare l p → IsOwner p k
      own : k ≡ length places → p ≡ a → IsOwner p k
      other : k ≡ length places → p ≡ b → IsOwner p k

    owner : (p k : ℕ) → p < length l.heads → IsOf n after p k → IsOwner p k
    owner p k h of = elim (cases_lt k (length places)) [
      | inl less ↦ let its = of-old p k less of in old less its (placed.used p k h its)
      | inr past ↦
          let last : k ≡ length places = omega (arith, past, of.0, more) in
          let at : get_or after k 0 ≡ a = ap (λ i. get_or after i 0) last ∙ place-last in
          elim of.2 [
            | inl is ↦ own last (sym is ∙ at)
            | inr is ↦ other last (sym is ∙ ap (λ q. get_or l.partners q 0) at ∙ opposite)
          ]
    ]

    -- A link before the first spare one at its node.
    before-spare : (u p : ℕ) → IsNode l.nodes u → LiesAt l u p → ¬ IsSpare l p → p < get_or l.ends (u + 1) 0
    before-spare u p node lies used =
        let tail = links.at_tail u p node lies in
        elim (cases_lt p (get_or l.ends (u + 1) 0)) [
          | inl less ↦ less
          | inr past ↦ absurd (used (omega (arith, past, ap (λ x. get_or l.ends (x + 1) 0) tail)))
        ]

    -- A link of an old pair lies before the links of the new one.
    old-before : (u p q : ℕ) → IsNode l.nodes u → LiesAt l u p → LiesAt l u q → ¬ IsSpare l p → (q ≡ a) ⊎ (q ≡ b) → p < q
    old-before u p q node at_p at_q used new =
        let less = before-spare u p node at_p used in
        let tail = links.at_tail u q node at_q in
        elim new [
          | inl is ↦ omega (arith, less, is, av.end_is, ap (λ x. get_or l.ends (x + 1) 0) (sym tail ∙ ap (tail_of l) is ∙ av.tail))
          | inr is ↦ omega (arith, less, is, bw.end_is, ap (λ x. get_or l.ends (x + 1) 0) (sym tail ∙ ap (tail_of l) is ∙ bw.tail))
        ]

    -- The two lie at different nodes.
    not-both : (u p q : ℕ) → IsNode l.nodes u → LiesAt l u p → LiesAt l u q → p ≡ a → q ≡ b → ⊥
    not-both u p q node at_p at_q is its =
        apart (sym av.tail ∙ ap (tail_of l) (sym is) ∙ links.at_tail u p node at_p ∙ sym (links.at_tail u q node at_q) ∙ ap (tail_of l) its ∙ bw.tail)

    ascending-used : (u p q j k : ℕ) → IsNode l.nodes u → LiesAt l u p → LiesAt l u q → p < q → IsOf n after p j → IsOf n after q k → j < k
    ascending-used u p q j k node at_p at_q less its of =
        elim (owner p j (lies-within l u p links node at_p) its) [
          | old h p_of p_used ↦ elim (owner q k (lies-within l u q links node at_q) of) [
            | old g q_of q_used ↦ placed.ascending u p q j k node at_p at_q less p_of q_of
            | own last is ↦ omega (arith, h, last)
            | other last is ↦ omega (arith, h, last)
          ]
          | own last is ↦ elim (owner q k (lies-within l u q links node at_q) of) [
            | old g q_of q_used ↦ let back = old-before u q p node at_q at_p q_used (inl is) in absurd (omega (arith, back, less))
            | own g e ↦ absurd (omega (arith, is, e, less))
            | other g e ↦ absurd (not-both u p q node at_p at_q is e)
          ]
          | other last is ↦ elim (owner q k (lies-within l u q links node at_q) of) [
            | old g q_of q_used ↦ let back = old-before u q p node at_q at_p q_used (inr is) in absurd (omega (arith, back, less))
            | own g e ↦ absurd (not-both u q p node at_q at_p e is)
            | other g e ↦ absurd (omega (arith, is, e, less))
          ]
        ]

    one-used : (p j k : ℕ) → p < length l.heads → IsOf n after p j → IsOf n after p k → j ≡ k
    one-used p j k h its of =
        elim (owner p j h its) [
          | old less p_of used ↦ elim (owner p k h of) [
            | old g q_of _ ↦ placed.one p j k h p_of q_of
            | own g e ↦ absurd (used (subst (IsSpare l) (sym e) av.spare))
            | other g e ↦ absurd (used (subst (IsSpare l) (sym e) bw.spare))
          ]
          | own last is ↦ elim (owner p k h of) [
            | old g q_of used ↦ absurd (used (subst (IsSpare l) (sym is) av.spare))
            | own g e ↦ last ∙ sym g
            | other g e ↦ last ∙ sym g
          ]
          | other last is ↦ elim (owner p k h of) [
            | old g q_of used ↦ absurd (used (subst (IsSpare l) (sym is) bw.spare))
            | own g e ↦ last ∙ sym g
            | other g e ↦ last ∙ sym g
          ]
        ]

    ArePlaces-used : ArePlaces n after
    ArePlaces-used = record {
      at_most = omega (arith, more, few);
      within = λ k h has. elim (cases_lt k (length places)) [
        | inl less ↦
            let same = place-before k less in
            let within = placed.within k less (λ none. has (same ∙ none)) in
            omega (arith, within, same)
        | inr past ↦
            let last : k ≡ length places = omega (arith, past, h, more) in
            omega (arith, ap (λ i. get_or after i 0) last, place-last, av.within)
      ];
      each = λ p h used. elim (cases_eq p a) [
        | inl is ↦ (length places, subst (λ q. IsOf n after q (length places)) (sym is) of-own)
        | inr not_a ↦ elim (cases_eq p b) [
          | inl is ↦ (length places, subst (λ q. IsOf n after q (length places)) (sym is) of-other)
          | inr not_b ↦ let found = placed.each p h (λ spare. used (still-spare p spare not_a not_b)) in (found.0, of-before p found.0 found.1)
        ]
      ];
      used = λ p k h of spare.
          let was = was-spare p spare in
          elim (owner p k h of) [
            | old less its used ↦ used was.0
            | own last is ↦ was.1 is
            | other last is ↦ was.2 is
          ];
      one = one-used;
      ascending = λ u p q j k node at_p at_q less its of. ascending-used u p q j k node (record { from = at_p.from; below = at_p.below })
          (record { from = at_q.from; below = at_q.below }) less its of;
    }

    -- the new pair, without room
    pair-last : (rooms : List ℕ) → AreRooms l rooms → pair_at n rooms a ≡ Some (record { tail = v; head = w; along = 0; against = 0 })
    pair-last rooms fit =
        let against : get_or rooms (get_or l.partners a 0) 0 ≡ 0 = ap (λ q. get_or rooms q 0) opposite ∙ fit.2 b bw.within bw.spare in
        let along = fit.2 a av.within av.spare in
        rw (ne_eqb a no_place there) (λ i. Some (record { tail = av.tail i; head = head-is i; along = along i; against = against i }))

    pub is-used : (along against : ℕ)
        → IsPutOn l places (without_room (Some (record { tail = v; head = w; along = along; against = against }))) n after
    is-used along against = record {
      nodes = refl;
      first = refl;
      count = refl;
      places_are = ArePlaces-used;
      rooms = λ rooms fit. (fit.0, fit.1, λ p h spare. fit.2 p h (was-spare p spare).0);
      flags = λ rooms flags fit told. told;
      pairs = λ rooms fit. map-append (pair_at n rooms) places (a ∷ []) ∙ ap (λ (o : Option Pair). pairs_at l places rooms ++ o ∷ []) (pair-last rooms fit);
      more = more;
      owners = λ p h used none. elim (cases_eq p a) [
        | inl is ↦ absurd (none (subst (λ q. IsOf n after q (length places)) (sym is) of-own))
        | inr not_a ↦ elim (cases_eq p b) [
          | inl is ↦ absurd (none (subst (λ q. IsOf n after q (length places)) (sym is) of-other))
          | inr not_b ↦ (λ spare. used (still-spare p spare not_a not_b), of-before p)
        ]
      ];
    }

-- A number without a pair is put on.
pub none-put : {l : Links} {places : List ℕ} → AreLinks l → ArePlaces l places → length places ≤ 2 ^ 27 → IsPutOn l places None l (places ++ no_place ∷ [])
none-put {l} {places} links placed few =
    let after : List ℕ = places ++ no_place ∷ [] in
    let more : length after ≡ length places + 1 = length-append places (no_place ∷ []) in
    let before : (k : ℕ) → k < length places → get_or after k 0 ≡ get_or places k 0 = λ k h. get_or_append_left places (no_place ∷ []) 0 k h in
    let last : get_or after (length places) 0 ≡ no_place =
    get_or-append_right places (no_place ∷ []) (length places) (length places) 0 refl (omega arith)
    ∙ ap (λ i. get_or (no_place ∷ []) i 0) (let e : length places - length places ≡ 0 = omega arith in e) in
    let less : (k : ℕ) → k < length after → get_or after k 0 ≢ no_place → k < length places = λ k h there. elim (cases_lt k (length places)) [
      | inl is ↦ is
      | inr past ↦ absurd (there (ap (λ i. get_or after i 0) (let e : k ≡ length places = omega (arith, past, h, more) in e) ∙ last))
    ] in
    let of-more : (p k : ℕ) → IsOf l places p k → IsOf l after p k = λ p k of. (
      omega (arith, of.0, more),
      λ none. of.1 (sym (before k of.0) ∙ none),
      elim of.2 [
        | inl along ↦ inl (before k of.0 ∙ along)
        | inr its ↦ inr (ap (λ q. get_or l.partners q 0) (before k of.0) ∙ its)
      ],
    ) in
    let of-was : (p k : ℕ) → IsOf l after p k → IsOf l places p k = λ p k of.
    let h = less k of.0 of.1 in (
      h,
      λ none. of.1 (before k h ∙ none),
      elim of.2 [
        | inl along ↦ inl (sym (before k h) ∙ along)
        | inr its ↦ inr (ap (λ q. get_or l.partners q 0) (sym (before k h)) ∙ its)
      ],
    ) in
    record {
      nodes = refl;
      first = refl;
      count = refl;
      places_are = record {
        at_most = omega (arith, more, few);
        within = λ k h there. let is = less k h there in let within = placed.within k is (λ none. there (before k is ∙ none)) in omega (arith, within, before k is);
        each = λ p h used. let found = placed.each p h used in (found.0, of-more p found.0 found.1);
        used = λ p k h of. placed.used p k h (of-was p k of);
        one = λ p j k h its of. placed.one p j k h (of-was p j its) (of-was p k of);
        ascending = λ v p q j k node at_p at_q h its of. placed.ascending v p q j k node at_p at_q h (of-was p j its) (of-was q k of);
      };
      rooms = λ rooms fit. fit;
      flags = λ rooms flags fit told. told;
      pairs = λ rooms fit. map-append (pair_at l rooms) places (no_place ∷ []);
      more = more;
      owners = λ p h used none. (used, of-more p);
    }

-- the pairs at places, once links are coupled
pairs-coupled : {l n : Links} {a b : ℕ} {places : List ℕ} → AreLinks l → AreCoupled l a b n → ArePlaces l places → (rooms qs : List ℕ)
    → ((i : ℕ) → i < length qs → get_or qs i 0 ≢ no_place → (get_or qs i 0 < length l.heads) × ¬ IsSpare l (get_or qs i 0))
    → pairs_at n qs rooms ≡ pairs_at l qs rooms
pairs-coupled links are placed rooms [] each = refl
pairs-coupled {l} {n} links are placed rooms (q ∷ qs) each =
    let rest = pairs-coupled links are placed rooms qs (λ i h. each (suc i) (omega (arith, h))) in
    let first : pair_at n rooms q ≡ pair_at l rooms q = elim (cases_eq q no_place) [
      | inl none ↦ rw (eq-eqb q no_place none) refl
      | inr has ↦
          let its = each 0 (omega arith) has in
          let same = used-same links are q its.0 its.1 in
          let tail = coupled-tail links are q its.0 in
          let against : get_or rooms (get_or n.partners q 0) 0 ≡ get_or rooms (get_or l.partners q 0) 0 = ap (λ p. get_or rooms p 0) same.0 in
          rw (ne_eqb q no_place has)
          (λ i. Some (record { tail = tail i; head = same.1 i; along = get_or rooms q 0; against = against i }))
    ] in
    λ i. first i ∷ rest i

-- What is put on once links are coupled is put on.
pub put-coupled : {l m n : Links} {a b : ℕ} {places after : List ℕ} {o : Option Pair} → AreLinks l → AreCoupled l a b m → ArePlaces l places
    → IsPutOn m places o n after → IsPutOn l places o n after
put-coupled {l} {m} {n} {places = places} {after} {o} links are placed put = record {
  nodes = put.nodes ∙ are.nodes;
  first = put.first ∙ are.first;
  count = put.count ∙ are.count;
  places_are = put.places_are;
  rooms = λ rooms fit. put.rooms rooms (AreRooms-coupled links are rooms fit);
  flags = λ rooms flags fit told. put.flags rooms flags (AreRooms-coupled links are rooms fit) (AreFlags-coupled links are rooms flags fit told);
  pairs = λ rooms fit. put.pairs rooms (AreRooms-coupled links are rooms fit)
      ∙ ap (λ pairs. pairs ++ o ∷ []) (pairs-coupled links are placed rooms places (λ i h there.
      let within = placed.within i h there in (within, placed.used (get_or places i 0) i within (h, there, inl refl))));
  more = put.more;
  owners = λ p h used none.
      let its = put.owners p (omega (arith, h, are.count)) used none in (
        λ spare. its.0 (spare-stays links are p h spare),
        λ k of. its.1 k (of-stays links are placed p k of),
      );
}

-- The links with those of the pair are links, once its spare ones are opposites,
pub put-links : {l m : Links} {p : Pair} {a b : ℕ} → AreLinks l → IsPair l.nodes p → IsFirstSpare l p.tail a → IsFirstSpare l p.head b
    → AreCoupled l a b m → AreLinks (used_at m a b)
put-links {p = p} {a} {b} links pair tail head are =
    AreLinks-used (AreLinks-coupled links are) (spare-coupled links are (spare-at p.tail a links pair.tail tail))
    (spare-coupled links are (spare-at p.head b links pair.head head)) pair.no_loop are.opposite

-- and it is put on.
pub put-pair : {l m : Links} {places : List ℕ} {p : Pair} {a b : ℕ} → AreLinks l → ArePlaces l places → length places ≤ 2 ^ 27 → IsPair l.nodes p
    → IsFirstSpare l p.tail a → IsFirstSpare l p.head b → AreCoupled l a b m → IsPutOn l places (without_room (Some p)) (used_at m a b) (places ++ a ∷ [])
put-pair {p = p} {a} {b} links placed few pair tail head are =
    put-coupled links are placed
    (is-used (AreLinks-coupled links are) (spare-coupled links are (spare-at p.tail a links pair.tail tail))
    (spare-coupled links are (spare-at p.head b links pair.head head)) pair.no_loop are.opposite (ArePlaces-coupled links are placed) few p.along p.against)
