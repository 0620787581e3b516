-- Two spare links become opposites, and so do those that were theirs.
use Rattle.std.proofs.Common.{ℕ, ◌≡◌, ◌≢◌, ◌+◌, ◌<◌, ◌≤◌, List, length, get_or, set, inl, inr, refl, ap, sym, ◌∙◌, subst, arith}
use Rattle.std.proofs.Common.{get_or-set_other, get_or-set_same, length-set}
use Rattle.std.proofs.lemmas.Bool.{cases_eq}
use Rattle.dmf_node.specs.Node.{IsNode}
use Rattle.dmf_links.specs.Links.{Links, LiesAt, IsLink, IsOf, IsSpare, AreFlags, AreLinks, ArePlaces, AreRooms, open_flag, tail_of}
use Rattle.dmf_links.specs.Stack.{AreCoupled, IsTurned}
use Rattle.dmf_links.proofs.tables.LinkPlaces.{lies-within}

-- Four different entries of a list of length `n`.
record AreFour (n a b c d : ℕ) : Type 0 where
  a_in : a < n
  b_in : b < n
  c_in : c < n
  d_in : d < n
  ab : a ≢ b
  ac : a ≢ c
  ad : a ≢ d
  bc : b ≢ c
  bd : b ≢ d
  cd : c ≢ d

module _ (xs : List ℕ) {a b c d : ℕ} (u v w t : ℕ) (four : AreFour (length xs) a b c d) where
  -- the list with other entries there
  abbrev four_set : List ℕ
  four_set = set (set (set (set xs a u) b v) c w) d t

  four-long : length four_set ≡ length xs
  four-long = length-set _ d t ∙ length-set _ c w ∙ length-set _ b v ∙ length-set xs a u

  at_d : get_or four_set d 0 ≡ t
  at_d = get_or-set_same _ d t 0 (omega (arith, four.d_in, length-set (set (set xs a u) b v) c w, length-set (set xs a u) b v, length-set xs a u))

  at_c : get_or four_set c 0 ≡ w
  at_c = get_or-set_other _ d c t 0 four.cd ∙ get_or-set_same _ c w 0 (omega (arith, four.c_in, length-set (set xs a u) b v, length-set xs a u))

  at_b : get_or four_set b 0 ≡ v
  at_b = get_or-set_other _ d b t 0 four.bd ∙ get_or-set_other _ c b w 0 four.bc ∙ get_or-set_same _ b v 0 (omega (arith, four.b_in, length-set xs a u))

  at_a : get_or four_set a 0 ≡ u
  at_a = get_or-set_other _ d a t 0 four.ad ∙ get_or-set_other _ c a w 0 four.ac ∙ get_or-set_other _ b a v 0 four.ab
      ∙ get_or-set_same xs a u 0 four.a_in

  at_other : (x : ℕ) → x ≢ a → x ≢ b → x ≢ c → x ≢ d → get_or four_set x 0 ≡ get_or xs x 0
  at_other x not_a not_b not_c not_d = get_or-set_other _ d x t 0 not_d ∙ get_or-set_other _ c x w 0 not_c ∙ get_or-set_other _ b x v 0 not_b
      ∙ get_or-set_other xs a x u 0 not_a

module _ (l : Links) (a b : ℕ) (links : AreLinks l) (a_in : a < length l.heads) (b_in : b < length l.heads) (apart : a ≢ b)
    (a_spare : IsSpare l a) (b_spare : IsSpare l b) where
  abbrev c : ℕ
  c = get_or l.partners a 0

  abbrev d : ℕ
  d = get_or l.partners b 0

  -- the link leads to where its opposite lies
  leads-back : (x : ℕ) → x < length l.heads → get_or l.heads x 0 ≡ tail_of l (get_or l.partners x 0)
  leads-back x h = sym (ap (λ q. get_or l.heads q 0) (links.each x h).partner_back)

  -- A link that is none of the four is as it was.
  kept : (n : Links) (x : ℕ) → x < length l.heads → get_or n.partners x 0 ≡ get_or l.partners x 0
      → get_or n.partners (get_or l.partners x 0) 0 ≡ x → get_or n.heads x 0 ≡ get_or l.heads x 0 → IsTurned l n x
  kept n x h same back head =
      let link = links.each x h in
      record {
        opposite = get_or l.partners x 0;
        within = link.partner;
        is = same;
        back = back;
        other = link.partner_other;
        leads = head ∙ leads-back x h;
        kind = inr (refl, head);
      }

  -- Opposites stay as they are.
  pub coupled-already : c ≡ b → AreCoupled l a b l
  coupled-already same = record {
    nodes = refl;
    first = refl;
    ends = refl;
    count = refl;
    partners_long = links.partners_long;
    each = λ x h. kept l x h refl (links.each x h).partner_back refl;
    opposite = same;
  }

  module _ (far : c ≢ b) where
    at : IsLink l a
    at = links.each a a_in

    bt : IsLink l b
    bt = links.each b b_in

    four : (n : ℕ) → n ≡ length l.heads → AreFour n a b c d
    four n long = record {
      a_in = omega (arith, a_in, long);
      b_in = omega (arith, b_in, long);
      c_in = omega (arith, at.partner, long);
      d_in = omega (arith, bt.partner, long);
      ab = apart;
      ac = λ e. at.partner_other (sym e);
      ad = λ e. far (ap (λ q. get_or l.partners q 0) e ∙ bt.partner_back);
      bc = λ e. far (sym e);
      bd = λ e. bt.partner_other (sym e);
      cd = λ e. apart (sym at.partner_back ∙ ap (λ q. get_or l.partners q 0) e ∙ bt.partner_back);
    }

    -- the links with those two as opposites
    abbrev pub coupled : Links
    coupled = record {
      nodes = l.nodes;
      first = l.first;
      ends = l.ends;
      heads = set (set (set (set l.heads a (tail_of l b)) b (tail_of l a)) c (get_or l.heads b 0)) d (get_or l.heads a 0);
      partners = set (set (set (set l.partners a b) b a) c d) d c;
    }

    of-heads : AreFour (length l.heads) a b c d
    of-heads = four (length l.heads) refl

    of-partners : AreFour (length l.partners) a b c d
    of-partners = four (length l.partners) links.partners_long

    turned : (x : ℕ) → x < length l.heads → IsTurned l coupled x
    turned x h = elim (cases_eq x a) [
      | inl same ↦ subst (IsTurned l coupled) (sym same) (record {
        opposite = b;
        within = b_in;
        is = at_a l.partners b a d c of-partners;
        back = at_b l.partners b a d c of-partners;
        other = λ e. apart (sym e);
        leads = at_a l.heads (tail_of l b) (tail_of l a) (get_or l.heads b 0) (get_or l.heads a 0) of-heads;
        kind = inl (a_spare, b_spare);
      })
      | inr not_a ↦ elim (cases_eq x b) [
        | inl same ↦ subst (IsTurned l coupled) (sym same) (record {
          opposite = a;
          within = a_in;
          is = at_b l.partners b a d c of-partners;
          back = at_a l.partners b a d c of-partners;
          other = apart;
          leads = at_b l.heads (tail_of l b) (tail_of l a) (get_or l.heads b 0) (get_or l.heads a 0) of-heads;
          kind = inl (b_spare, a_spare);
        })
        | inr not_b ↦ elim (cases_eq x c) [
          | inl same ↦ subst (IsTurned l coupled) (sym same) (record {
            opposite = d;
            within = bt.partner;
            is = at_c l.partners b a d c of-partners;
            back = at_d l.partners b a d c of-partners;
            other = λ e. of-heads.cd (sym e);
            leads = at_c l.heads (tail_of l b) (tail_of l a) (get_or l.heads b 0) (get_or l.heads a 0) of-heads ∙ leads-back b b_in;
            kind = inl (at.partner_spare a_spare, bt.partner_spare b_spare);
          })
          | inr not_c ↦ elim (cases_eq x d) [
            | inl same ↦ subst (IsTurned l coupled) (sym same) (record {
              opposite = c;
              within = at.partner;
              is = at_d l.partners b a d c of-partners;
              back = at_c l.partners b a d c of-partners;
              other = of-heads.cd;
              leads = at_d l.heads (tail_of l b) (tail_of l a) (get_or l.heads b 0) (get_or l.heads a 0) of-heads ∙ leads-back a a_in;
              kind = inl (bt.partner_spare b_spare, at.partner_spare a_spare);
            })
            | inr not_d ↦
                let y : ℕ = get_or l.partners x 0 in
                let back : get_or l.partners y 0 ≡ x = (links.each x h).partner_back in
                let away : (z : ℕ) → x ≢ get_or l.partners z 0 → y ≢ z = λ z other e. other (sym back ∙ ap (λ q. get_or l.partners q 0) e) in
                let read = at_other l.partners b a d c of-partners in
                kept coupled x h (read x not_a not_b not_c not_d)
                (read y (away a not_c) (away b not_d) (away c (λ e. not_a (e ∙ at.partner_back))) (away d (λ e. not_b (e ∙ bt.partner_back))) ∙ back)
                (at_other l.heads (tail_of l b) (tail_of l a) (get_or l.heads b 0) (get_or l.heads a 0) of-heads x not_a not_b not_c not_d)
          ]
        ]
      ]
    ]

    pub are-coupled : AreCoupled l a b coupled
    are-coupled = record {
      nodes = refl;
      first = refl;
      ends = refl;
      count = four-long l.heads (tail_of l b) (tail_of l a) (get_or l.heads b 0) (get_or l.heads a 0) of-heads;
      partners_long = four-long l.partners b a d c of-partners ∙ links.partners_long;
      each = turned;
      opposite = at_a l.partners b a d c of-partners;
    }

module _ {l n : Links} {a b : ℕ} (links : AreLinks l) (are : AreCoupled l a b n) where
  -- The tail of each link stays.
  pub coupled-tail : (x : ℕ) → x < length l.heads → tail_of n x ≡ tail_of l x
  coupled-tail x h =
      let t = are.each x h in
      let o = are.each t.opposite t.within in
      ap (λ q. get_or n.heads q 0) t.is ∙ o.leads ∙ ap (tail_of l) (sym o.is ∙ t.back)

  -- So the same links are spare.
  end-same : (x : ℕ) → x < length l.heads → get_or n.ends (tail_of n x + 1) 0 ≡ get_or l.ends (tail_of l x + 1) 0
  end-same x h = ap (λ (ends : List ℕ). get_or ends (tail_of n x + 1) 0) are.ends ∙ ap (λ u. get_or l.ends (u + 1) 0) (coupled-tail x h)

  pub spare-was : (x : ℕ) → x < length l.heads → IsSpare n x → IsSpare l x
  spare-was x h spare = omega (arith, spare, end-same x h)

  pub spare-stays : (x : ℕ) → x < length l.heads → IsSpare l x → IsSpare n x
  spare-stays x h spare = omega (arith, spare, end-same x h)

  -- A link that is not spare has its head and its opposite.
  pub used-same : (x : ℕ) → x < length l.heads → ¬ IsSpare l x
      → (get_or n.partners x 0 ≡ get_or l.partners x 0) × (get_or n.heads x 0 ≡ get_or l.heads x 0)
  used-same x h used =
      let t = are.each x h in
      elim t.kind [
        | inl spare ↦ absurd (used spare.0)
        | inr same ↦ (t.is ∙ same.0, same.1)
      ]

  lies-same : (v x : ℕ) → LiesAt n v x → LiesAt l v x
  lies-same v x lies = record {
    from = subst (λ (first : List ℕ). get_or first v 0 ≤ x) are.first lies.from;
    below = subst (λ (first : List ℕ). x < get_or first (v + 1) 0) are.first lies.below;
  }

  lies-stays : (v x : ℕ) → LiesAt l v x → LiesAt n v x
  lies-stays v x lies = record {
    from = subst (λ (first : List ℕ). get_or first v 0 ≤ x) (sym are.first) lies.from;
    below = subst (λ (first : List ℕ). x < get_or first (v + 1) 0) (sym are.first) lies.below;
  }

  node-stays : (v : ℕ) → IsNode l.nodes v → IsNode n.nodes v
  node-stays v node = subst (λ (nodes : ℕ). IsNode nodes v) (sym are.nodes) node

  link-turned : (x : ℕ) → x < length l.heads → IsLink n x
  link-turned x h =
      let t = are.each x h in
      let link = links.each x h in
      let tail = coupled-tail x h in
      record {
        head = subst (IsNode n.nodes) (sym t.leads) (node-stays _ (links.each t.opposite t.within).tail);
        tail = subst (IsNode n.nodes) (sym tail) (node-stays _ link.tail);
        lies = subst (λ v. LiesAt n v x) (sym tail) (lies-stays _ x link.lies);
        partner = omega (arith, t.is, t.within, are.count);
        partner_back = ap (λ q. get_or n.partners q 0) t.is ∙ t.back;
        partner_other = λ e. t.other (sym t.is ∙ e);
        partner_spare = λ spare. subst (IsSpare n) (sym t.is) (spare-stays t.opposite t.within (elim t.kind [
          | inl both ↦ both.1
          | inr same ↦ subst (IsSpare l) (sym same.0) (link.partner_spare (spare-was x h spare))
        ]));
        no_loop = λ used same. let is = used-same x h (λ spare. used (spare-stays x h spare)) in
            link.no_loop (λ spare. used (spare-stays x h spare)) (sym tail ∙ same ∙ is.1);
      }

  -- The links are links,
  pub AreLinks-coupled : AreLinks n
  AreLinks-coupled = record {
    first_long = ap length are.first ∙ links.first_long ∙ ap (λ k. k + 2) (sym are.nodes);
    ends_long = ap length are.ends ∙ links.ends_long ∙ ap (λ k. k + 2) (sym are.nodes);
    ends_from = λ v h.
        let from = links.ends_from v (omega (arith, h, are.nodes)) in
        omega (arith, from, ap (λ (first : List ℕ). get_or first v 0) are.first, ap (λ (ends : List ℕ). get_or ends (v + 1) 0) are.ends);
    partners_long = are.partners_long ∙ sym are.count;
    at_most = omega (arith, are.count, links.at_most);
    at_most_nodes = omega (arith, are.nodes, links.at_most_nodes);
    ascending = λ v h.
        let next = links.ascending v (omega (arith, h, are.nodes)) in
        omega (arith, next, ap (λ (first : List ℕ). get_or first v 0) are.first, ap (λ (first : List ℕ). get_or first (v + 1) 0) are.first);
    last = ap (λ (first : List ℕ). get_or first (n.nodes + 1) 0) are.first ∙ ap (λ k. get_or l.first (k + 1) 0) are.nodes ∙ links.last ∙ sym are.count;
    each = λ p h. link-turned p (omega (arith, h, are.count));
    at_tail = λ v p node lies.
        let was = lies-same v p lies in
        let its = subst (λ (nodes : ℕ). IsNode nodes v) are.nodes node in
        coupled-tail p (lies-within l v p links its was) ∙ links.at_tail v p its was;
  }

  -- and belong to the same pairs.
  module _ {places : List ℕ} (placed : ArePlaces l places) where
    pub of-stays : (p k : ℕ) → IsOf l places p k → IsOf n places p k
    of-stays p k of =
        let within = placed.within k of.0 of.1 in
        let used = placed.used (get_or places k 0) k within (of.0, of.1, inl refl) in (
          of.0,
          of.1,
          elim of.2 [
            | inl own ↦ inl own
            | inr opposite ↦ inr ((used-same (get_or places k 0) within used).0 ∙ opposite)
          ],
        )

    pub of-was : (p k : ℕ) → IsOf n places p k → IsOf l places p k
    of-was p k of =
        let within = placed.within k of.0 of.1 in
        let used = placed.used (get_or places k 0) k within (of.0, of.1, inl refl) in (
          of.0,
          of.1,
          elim of.2 [
            | inl own ↦ inl own
            | inr opposite ↦ inr (sym (used-same (get_or places k 0) within used).0 ∙ opposite)
          ],
        )

    pub ArePlaces-coupled : ArePlaces n places
    ArePlaces-coupled = record {
      at_most = placed.at_most;
      within = λ k h there. let within = placed.within k h there in omega (arith, within, are.count);
      each = λ p h used.
          let inside : p < length l.heads = omega (arith, h, are.count) in
          let found = placed.each p inside (λ spare. used (spare-stays p inside spare)) in
          (found.0, of-stays p found.0 found.1);
      used = λ p k h of spare.
          let inside : p < length l.heads = omega (arith, h, are.count) in
          placed.used p k inside (of-was p k of) (spare-was p inside spare);
      one = λ p j k h its other. placed.one p j k (omega (arith, h, are.count)) (of-was p j its) (of-was p k other);
      ascending = λ v p q j k node at_p at_q less its other.
          placed.ascending v p q j k (subst (λ (nodes : ℕ). IsNode nodes v) are.nodes node) (lies-same v p at_p) (lies-same v q at_q) less
          (of-was p j its) (of-was q k other);
    }

  -- Rooms and flags stay those of the links.
  pub AreRooms-coupled : (rooms : List ℕ) → AreRooms l rooms → AreRooms n rooms
  AreRooms-coupled rooms fit = (
    fit.0 ∙ sym are.count,
    λ p h.
        let inside : p < length l.heads = omega (arith, h, are.count) in
        let t = are.each p inside in
        let room : get_or rooms (get_or n.partners p 0) 0 ≡ get_or rooms t.opposite 0 = ap (λ q. get_or rooms q 0) t.is in
        elim t.kind [
          | inl both ↦ omega (arith, fit.2 p inside both.0, fit.2 t.opposite t.within both.1, room)
          | inr same ↦ omega (arith, fit.1 p inside, room, ap (λ q. get_or rooms q 0) same.0)
        ],
    λ p h spare. let inside : p < length l.heads = omega (arith, h, are.count) in fit.2 p inside (spare-was p inside spare),
  )

  pub AreFlags-coupled : (rooms flags : List ℕ) → AreRooms l rooms → AreFlags l rooms flags → AreFlags n rooms flags
  AreFlags-coupled rooms flags fit told = (
    told.0 ∙ sym are.count,
    λ p h.
        let inside : p < length l.heads = omega (arith, h, are.count) in
        let t = are.each p inside in
        let link = links.each p inside in
        told.1 p inside ∙ ap open_flag (elim t.kind [
          | inl both ↦ fit.2 (get_or l.partners p 0) link.partner (link.partner_spare both.0) ∙ sym (fit.2 t.opposite t.within both.1)
              ∙ ap (λ q. get_or rooms q 0) (sym t.is)
          | inr same ↦ ap (λ q. get_or rooms q 0) (sym (t.is ∙ same.0))
        ]),
  )
