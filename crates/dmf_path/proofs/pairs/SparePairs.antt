-- The pairs of a search are valid, and so are those behind them whose links become spare.
use Rattle.std.proofs.Common.{ℕ, ◌≡◌, ◌+◌, ◌-◌, ◌^◌, ◌<◌, ◌≤◌, ◌⊎◌, List, ◌++◌, length, get_or, take, Option, Some, None, inl, inr, refl, ap, sym, ◌∙◌}
use Rattle.std.proofs.Common.{subst, arith, eq-eqb, length-append}
use Rattle.std.proofs.Math.Seq.{get_or-append_right, take-append_seam}
use Rattle.std.proofs.lemmas.Bool.{cases_eq, cases_lt, le-ltb, lt-ltb}
use Rattle.std.proofs.lemmas.List.{get_or-map, get_or_append_left, get_or_past, length-map}
use Rattle.std.proofs.lemmas.List.FromFn.{get_or-map-range_with_len, length-map-range_with_len}
use Rattle.std.proofs.lemmas.Option.{get_or_from_slice_get, same_Some, slice_get-get_or, slice_get_within}
use Rattle.dmf_node.specs.Node.{IsNode}
use Rattle.dmf_links.specs.declared.pair.Pair.{Pair}
use Rattle.dmf_links.specs.Links.{Links, AreLinks, ArePlaces, AreRooms, IsPlaceOf, no_place, pair_at, pairs_at}
use Rattle.dmf_links.specs.Pair.{ArePairs, IsPair, without_room, pair_number}
use Rattle.dmf_links.proofs.rooms.PairRead.{its-pair}
use Rattle.dmf_path.specs.Spares.{node_after, spare_pair, spare_pairs}

-- The pairs of links are valid.
pub pairs-valid : {l : Links} {places : List ℕ} (rooms : List ℕ) → AreLinks l → ArePlaces l places → AreRooms l rooms → ArePairs l.nodes (pairs_at l places rooms)
pairs-valid {l} {places} rooms links are fit = record {
  each = λ k p read.
      let h : k < length places = omega (arith, slice_get_within (pairs_at l places rooms) k (Some p) read, length-map places (pair_at l rooms)) in
      let is : pair_number (pairs_at l places rooms) k ≡ Some p = get_or_from_slice_get (pairs_at l places rooms) k (Some p) None read in
      let place : ℕ = get_or places k 0 in
      elim (cases_eq place no_place) [
        | inl none ↦
            let nothing : pair_number (pairs_at l places rooms) k ≡ None =
            get_or-map (pair_at l rooms) places k 0 None h ∙ rw (eq-eqb place no_place none) refl in
            absurd (cc)
        | inr there ↦
            let of : IsPlaceOf places k place = record { is = refl; there = there } in
            let its = its-pair l places rooms k place h of in
            let within = are.within k h there in
            let link = links.each place within in
            subst (IsPair l.nodes) (same_Some _ _ (sym its ∙ is)) (record {
              tail = link.tail;
              head = link.head;
              no_loop = link.no_loop (are.used place k within (h, there, inl refl));
              fits = fit.1 place within;
            })
      ];
  at_most = omega (arith, are.at_most, length-map places (pair_at l rooms));
}

-- The node after a node is the next one, or the first ones come again.
after-is : (nodes v : ℕ) → ((v + 1 ≤ nodes) × (node_after nodes v ≡ v + 1)) ⊎ ((nodes < v + 1) × (node_after nodes v + nodes ≡ v + 1))
after-is nodes v = elim (cases_lt nodes (v + 1)) [
  | inl past ↦ inr (past, rw (lt-ltb nodes (v + 1) past) (omega (arith, past)))
  | inr within ↦ inl (within, rw (le-ltb nodes (v + 1) within) refl)
]

-- Each of the pairs whose links become spare is valid, and has no room.
spare-valid : (nodes hub more k : ℕ) → 2 ≤ nodes → IsNode nodes hub → more < nodes → k < nodes + more → IsPair nodes (spare_pair nodes hub k)
spare-valid nodes hub more k two hub_is few below = elim (cases_lt k nodes) [
  | inl first ↦
      let after = after-is nodes (k + 1) in
      rw (lt-ltb k nodes first) (record {
        tail = record { from_one = omega arith; to_last = omega (arith, first) };
        head = record { from_one = omega (arith, after, two); to_last = omega (arith, after, first) };
        no_loop = omega (arith, after, two, first);
        fits = omega arith;
      })
  | inr later ↦
      let after = after-is nodes (hub + (k - nodes)) in
      rw (le-ltb k nodes later) (record {
        tail = hub_is;
        head = record {
          from_one = omega (arith, after, hub_is.from_one);
          to_last = omega (arith, after, hub_is.to_last, below, few, later);
        };
        no_loop = omega (arith, after, hub_is.from_one, hub_is.to_last, below, few, later);
        fits = omega arith;
      })
]

spare-idle : (nodes hub k : ℕ) → without_room (Some (spare_pair nodes hub k)) ≡ Some (spare_pair nodes hub k)
spare-idle nodes hub k = elim (cases_lt k nodes) [
  | inl first ↦ rw (lt-ltb k nodes first) refl
  | inr later ↦ rw (le-ltb k nodes later) refl
]

module _ (nodes hub more : ℕ) where
  abbrev spares : List (Option Pair)
  spares = spare_pairs nodes hub more

  pub spares-long : length spares ≡ nodes + more
  spares-long = length-map-range_with_len (λ k. Some (spare_pair nodes hub k)) 0 (nodes + more)

  spare-number : (j : ℕ) → j < nodes + more → pair_number spares j ≡ Some (spare_pair nodes hub j)
  spare-number j h = get_or-map-range_with_len (λ k. Some (spare_pair nodes hub k)) 0 (nodes + more) j j None h (omega arith)

  module _ (ps : List (Option Pair)) where
    -- Behind these pairs come the others.
    pub number-behind : (k : ℕ) → length ps ≤ k → k < length ps + (nodes + more)
        → pair_number (ps ++ spares) k ≡ Some (spare_pair nodes hub (k - length ps))
    number-behind k past below = get_or-append_right ps spares k None past ∙ spare-number (k - length ps) (omega (arith, past, below))

    pub number-before : (k : ℕ) → k < length ps → pair_number (ps ++ spares) k ≡ pair_number ps k
    number-before k h = get_or_append_left ps spares None k h

    pub both-long : length (ps ++ spares) ≡ length ps + (nodes + more)
    both-long = length-append ps spares ∙ ap (λ n. length ps + n) spares-long

    -- They are valid together,
    pub both-valid : ArePairs nodes ps → 2 ≤ nodes → IsNode nodes hub → more < nodes → length ps + nodes + more ≤ 2 ^ 27 + 1 → ArePairs nodes (ps ++ spares)
    both-valid are two hub_is few at_most = record {
      each = λ k p read.
          let is : pair_number (ps ++ spares) k ≡ Some p = get_or_from_slice_get (ps ++ spares) k (Some p) None read in
          let below = slice_get_within (ps ++ spares) k (Some p) read in
          elim (cases_lt k (length ps)) [
            | inl before ↦ are.each k p (slice_get-get_or ps k None before ∙ ap (λ o. Some o) (sym (number-before k before) ∙ is))
            | inr past ↦
                let inside : k < length ps + (nodes + more) = omega (arith, below, both-long) in
                subst (IsPair nodes) (same_Some _ _ (sym (number-behind k past inside) ∙ is))
                (spare-valid nodes hub more (k - length ps) two hub_is few (omega (arith, past, inside)))
          ];
      at_most = omega (arith, both-long, at_most);
    }

    -- and those behind have no room.
    pub idle-behind : (k : ℕ) → length ps ≤ k → without_room (pair_number (ps ++ spares) k) ≡ pair_number (ps ++ spares) k
    idle-behind k past = elim (cases_lt k (length ps + (nodes + more))) [
      | inl inside ↦
          let is = number-behind k past inside in
          ap without_room is ∙ spare-idle nodes hub (k - length ps) ∙ sym is
      | inr beyond ↦
          let none : pair_number (ps ++ spares) k ≡ None = get_or_past (ps ++ spares) k None (omega (arith, beyond, both-long)) in
          ap without_room none ∙ sym none
    ]

    -- Without them the pairs are as before.
    pub take-before : take (length (ps ++ spares) - (nodes + more)) (ps ++ spares) ≡ ps
    take-before =
        let less : length (ps ++ spares) - (nodes + more) ≡ length ps = omega (arith, both-long) in
        ap (λ n. take n (ps ++ spares)) less ∙ take-append_seam ps spares
