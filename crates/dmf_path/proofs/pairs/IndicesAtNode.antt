-- The numbers of the links of a node are the indices of the pairs at it, and ascend.
use Rattle.std.proofs.Common.{ℕ, ◌≡◌, ◌+◌, ◌-◌, ◌<◌, ◌≤◌, ◌⊎◌, inl, inr, List, Some, None, length, get_or, drop, take, refl, ◌∙◌, subst, arith}
use Rattle.std.proofs.lemmas.Bool.{cases_eq, cases_lt, ne_eqb}
use Rattle.std.proofs.lemmas.List.{get_or-drop, get_or-map, get_or-take, length-drop, length-map, length-take-le}
use Rattle.dmf_node.specs.Node.{IsNode}
use Rattle.dmf_links.specs.declared.pair.Pair.{Pair}
use Rattle.dmf_links.specs.Links.{AreLinks, ArePlaces, AreUsed, HaveAllPlaces, IsOf, IsSpare, LiesAt, Links, no_place, pair_at, pairs_at, tail_of}
use Rattle.dmf_links.specs.Numbers.{AreNumbers}
use Rattle.dmf_links.proofs.tables.LinkPlaces.{lies-partner, lies-within}
use Rattle.dmf_path.specs.Search.{Covers, IsElsewhere}

module _ (l : Links) (places rooms numbers : List ℕ) (v start end : ℕ) (links : AreLinks l) (are : ArePlaces l places) (numbered : AreNumbers l places numbers)
    (all : HaveAllPlaces places) (node : IsNode l.nodes v) (used : AreUsed l v start end) where
  -- The link at the `i`-th of these places is that of the pair whose index is its number.
  its : (i : ℕ) → i < end - start → LiesAt l v (start + i) × (start + i < length l.heads) × IsOf l places (start + i) (get_or numbers (start + i) 0)
  its i h =
      let p = start + i in
      let lies = used.lie p (omega arith) (omega (arith, h)) in
      let within = lies-within l v p links node lies.0 in
      let not_spare : ¬ IsSpare l p = λ spare. (
      let tail = links.at_tail v p node lies.0 in
      omega (arith, lies.1, rw tail at spare)
      ) in
      (lies.0, within, numbered.1 p within not_spare)

  -- A pair's link at the node is at one of these places.
  listed : (p k : ℕ) → LiesAt l v p → p < length l.heads → IsOf l places p k → (i : ℕ) × (i < end - start) × (get_or numbers (start + i) 0 ≡ k)
  listed p k lies within of =
      let not_spare = are.used p k within of in
      let tail = links.at_tail v p node lies in
      let before : p < get_or l.ends (v + 1) 0 = elim (cases_lt p (get_or l.ends (v + 1) 0)) [
        | inl less ↦ less
        | inr more ↦ absurd (not_spare (rw tail more))
      ] in
      let among = used.each p lies before in
      let place : start + (p - start) ≡ p = omega (arith, among.0) in
      (p - start, omega (arith, among.0, among.1), rw place (are.one p (get_or numbers p 0) k within (numbered.1 p within not_spare) of))

  -- A pair without a link at the node is elsewhere.
  among : (k : ℕ) → k < length places → IsElsewhere (pairs_at l places rooms) v k ⊎ ((i : ℕ) × (i < end - start) × (get_or numbers (start + i) 0 ≡ k))
  among k h =
      let place = get_or places k 0 in
      let there = all k h in
      let within = are.within k h there in
      let link = links.each place within in
      let pair : Pair = record {
        tail = tail_of l place;
        head = get_or l.heads place 0;
        along = get_or rooms place 0;
        against = get_or rooms (get_or l.partners place 0) 0;
      } in
      let is : get_or (pairs_at l places rooms) k None ≡ Some pair = get_or-map (pair_at l rooms) places k 0 None h ∙ (rw (ne_eqb place no_place there) refl) in
      elim (cases_eq (tail_of l place) v) [
        | inl at ↦ inr (listed place k (subst (λ u. LiesAt l u place) at link.lies) within (h, there, inl refl))
        | inr tail ↦ elim (cases_eq (get_or l.heads place 0) v) [
          | inl at ↦ inr (listed (get_or l.partners place 0) k (subst (λ u. LiesAt l u (get_or l.partners place 0)) at (lies-partner l place links within))
              link.partner (h, there, inr refl))
          | inr head ↦ inl (record { pair = pair; is = is; tail = tail; head = head })
        ]
      ]

  -- So their numbers cover all pairs but those that are elsewhere.
  pub covers-at_node : start ≤ end → end ≤ length l.heads
      → Covers (length (pairs_at l places rooms)) (IsElsewhere (pairs_at l places rooms) v) (take (end - start) (drop start numbers))
  covers-at_node order last =
      let count = length-map places (pair_at l rooms) in
      let indices : List ℕ = take (end - start) (drop start numbers) in
      let long = length-take-le (end - start) (drop start numbers) (omega (arith, length-drop start numbers, numbered.0, order, last)) in
      let same : (i : ℕ) → i < end - start → get_or indices i 0 ≡ get_or numbers (start + i) 0 =
      λ i h. get_or-take (end - start) (drop start numbers) i 0 h ∙ get_or-drop start numbers i 0 in
      record {
        below = λ i h. (let at = its i (omega (arith, h, long)) in omega (arith, same i (omega (arith, h, long)), at.2.0, count));
        ascending = λ i j before h. (
            let at = its i (omega (arith, before, h, long)) in
            let next = its j (omega (arith, h, long)) in
            omega (
              arith,
              same i (omega (arith, before, h, long)),
              same j (omega (arith, h, long)),
              are.ascending v (start + i) (start + j) _ _ node at.0 next.0 (omega (arith, before)) at.2 next.2,
            )
            );
        others = λ k h. elim (among k (omega (arith, h, count))) [
          | inl out ↦ inl out
          | inr has ↦ inr (has.0, omega (arith, has.1, long), same has.0 has.1 ∙ has.2)
        ];
      }
