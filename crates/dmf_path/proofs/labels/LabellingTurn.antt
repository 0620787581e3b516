-- One turn of spreading labels from roots: the next node in the queue.
use Rattle.std.proofs.Common.{ℕ, ◌≡◌, ◌≢◌, ◌+◌, ◌-◌, ◌≤◌, ◌<◌, ◌⊎◌, inl, inr, List, length, slice_index, get_or, refl, ap, sym, subst, ◌∙◌, arith}
use Rattle.std.proofs.Common.{Contains}
use Rattle.std.proofs.lemmas.Bool.{cases_eq, cases_lt}
use Rattle.std.proofs.lemmas.List.{length-append, get_or_append_left, get_or-append_right, get_or_default}
use Rattle.std.proofs.lemmas.List.Elements.{Contains-append_left, Contains-append_right, Contains-get_or}
use Rattle.dmf_node.specs.Node.{IsNode}
use Rattle.dmf_links.specs.Links.{Links, LiesAt, AreLinks, tail_of}
use Rattle.dmf_path.specs.Labels.{no_label, IsBacked}
use Rattle.dmf_links.proofs.tables.LinkPlaces.{lies-within}
use Rattle.dmf_path.specs.Frontier.{AreSpread, Expands}
use Rattle.dmf_path.proofs.labels.Labelling.{queue-short, queued-at}

-- A turn looks at the open links of the next node in the queue.
module _ {l : Links} {opens roots old queue : List ℕ} {done : ℕ} {new after : List ℕ} (are : AreLinks l)
    (so_far : AreSpread l opens roots old queue done) (ahead : done < length queue) (long : length new ≡ length old)
    (turn : Expands l opens old queue done new after) where
  -- A node whose label is no more than a place of the queue keeps it.
  kept-at : (k v : ℕ) → k < length queue → slice_index old v ≤ k → slice_index new v ≡ slice_index old v
  kept-at k v within small = turn.spreads.kept v (λ none. omega (arith, none, queue-short so_far, are.at_most_nodes))

  -- An open link of the next node leads to a node that gets a label.
  led-place : (v : ℕ) → Contains turn.fresh v → (p : ℕ) × (p < length l.heads) × (slice_index l.heads p ≡ v) × (slice_index opens p ≡ 1)
      × (tail_of l p ≡ slice_index queue done)
  led-place v among =
      let led = turn.spreads.led_to v among in
      let next = (so_far.queued done ahead).node in
      let lies : LiesAt l (slice_index queue done) led.place = record { from = led.from_first; below = led.to_last } in
      let tail = are.at_tail (slice_index queue done) led.place next lies in
      (led.place, lies-within l (slice_index queue done) led.place are next lies, led.leads, led.opened, tail)

  fresh-node : (v : ℕ) → Contains turn.fresh v → IsNode l.nodes v
  fresh-node v among = let led = led-place v among in subst (IsNode l.nodes) led.2 (are.each led.0 led.1).head

  -- A place of the queue is as it was before the turn.
  stood : (k : ℕ) → k < length queue
      → (slice_index after k ≡ slice_index queue k) × (slice_index new (slice_index after k) ≡ slice_index old (slice_index queue k))
  stood k within =
      let same : slice_index after k ≡ slice_index queue k = ap (λ q. slice_index q k) turn.queued ∙ get_or_append_left queue turn.fresh 0 k within in
      (same, ap (λ v. slice_index new v) same ∙ kept-at k (slice_index queue k) within (so_far.queued k within).small)

  -- Each place of the queue is as it was, or new.
  place-cases : (k : ℕ) → k < length after → ((k < length queue) × (slice_index new (slice_index after k) ≡ slice_index old (slice_index queue k)))
      ⊎ ((length queue ≤ k) × (slice_index new (slice_index after k) ≡ slice_index old (slice_index queue done) + 1)
      × Contains turn.fresh (slice_index after k))
  place-cases k within = elim (cases_lt k (length queue)) [
    | inl before ↦ inl (before, (stood k before).1)
    | inr behind ↦
        let same : slice_index after k ≡ slice_index turn.fresh (k - length queue) =
        ap (λ q. slice_index q k) turn.queued ∙ get_or-append_right queue turn.fresh (length queue) k 0 refl behind in
        let inside : k - length queue < length turn.fresh = omega (arith, ap length turn.queued, length-append queue turn.fresh) in
        let among : Contains turn.fresh (slice_index after k) = rw same (Contains-get_or turn.fresh (k - length queue) 0 inside) in
        inr (behind, turn.spreads.labelled (slice_index after k) among, among)
  ]

  -- A node with a label had it before, or gets it.
  label-cases : (v : ℕ) → v ≤ l.nodes → slice_index new v ≢ no_label → ((slice_index old v ≢ no_label) × (slice_index new v ≡ slice_index old v))
      ⊎ (Contains turn.fresh v × (slice_index new v ≡ slice_index old (slice_index queue done) + 1))
  label-cases v within has = elim (cases_eq (slice_index old v) no_label) [
    | inl none ↦ let among = turn.spreads.listed v (omega (arith, so_far.one_each)) none has in inr (among, turn.spreads.labelled v among)
    | inr was ↦ inl (was, turn.spreads.kept v was)
  ]

  -- the label of the node to which an open link leads, after the turn looked at the link
  label-next : (k p : ℕ) → k < done + 1 → LiesAt l (slice_index queue k) p → slice_index opens p ≡ 1
      → slice_index new (slice_index l.heads p) ≤ slice_index old (slice_index queue k) + 1
  label-next k p before lies opened =
      let head : ℕ = slice_index l.heads p in
      let entry = so_far.queued k (omega arith) in
      elim (cases_eq k done) [
        | inl last ↦
            let at_done : LiesAt l (slice_index queue done) p = rw (← last) lies in
            let same = ap (λ i. slice_index old (slice_index queue i)) last in
            let node = (are.each p (lies-within l (slice_index queue k) p are entry.node lies)).head in
            elim (label-cases head node.to_last (turn.spreads.done p at_done.from at_done.below opened)) [
              | inl was ↦
                  let stands = queued-at so_far head node was.0 in
                  omega (arith, was.1, same, stands.4, so_far.close done stands.0 (omega arith) ahead stands.1)
              | inr comes ↦ omega (arith, comes.1, same)
            ]
        | inr other ↦
            let was = so_far.scanned k p (omega arith) lies opened in
            omega (arith, was, kept-at (k + 1) head (omega arith) (omega (arith, was, entry.small)))
      ]

  backed-next : (v : ℕ) → IsNode l.nodes v → ¬ Contains roots v → slice_index new v ≢ no_label → IsBacked l opens new v
  backed-next v node other has = elim (label-cases v node.to_last has) [
    | inl was ↦
        let back = so_far.backed v node other was.0 in
        let stands = queued-at so_far v node was.0 in
        let kept = kept-at stands.0 (tail_of l back.place) stands.1 (omega (arith, back.label, stands.3)) in
        record { place = back.place; within = back.within; leads = back.leads; opened = back.opened; label = omega (arith, kept, back.label, was.1) }
    | inr comes ↦
        let led = led-place v comes.0 in
        let kept = kept-at done (slice_index queue done) ahead (so_far.queued done ahead).small in
        record { place = led.0; within = led.1; leads = led.2; opened = led.3; label = omega (arith, ap (λ u. slice_index new u) led.4, kept, comes.1) }
  ]

  ascending-next : (i j : ℕ) → i ≤ j → j < length after → slice_index new (slice_index after i) ≤ slice_index new (slice_index after j)
  ascending-next i j order within =
      grind (arith, place-cases i (omega arith), place-cases j within, so_far.ascending i j order, so_far.close done i (omega arith) ahead)

  close-next : (i j : ℕ) → done + 1 ≤ i + 1 → i < length after → j < length after
      → slice_index new (slice_index after j) ≤ slice_index new (slice_index after i) + 1
  close-next i j from within_i within_j =
      let close = so_far.close i j (omega arith) in
      let first = so_far.close done j (omega arith) ahead in
      grind (arith, place-cases i within_i, place-cases j within_j, close, first, so_far.ascending done i (omega arith))

  -- A turn leaves the search as far as the next node.
  pub spread-turn : AreSpread l opens roots new after (done + 1)
  spread-turn =
      let count = ap length turn.queued ∙ length-append queue turn.fresh in
      record {
        one_flag_each = so_far.one_flag_each;
        one_each = long ∙ so_far.one_each;
        roots_are = λ v c. let is = so_far.roots_are v c in kept-at done v ahead (omega (arith, is)) ∙ is;
        zero = elim (cases_eq (slice_index new 0) no_label) [
          | inl is ↦ is
          | inr other ↦
              let among = turn.spreads.listed 0 (omega (arith, so_far.one_each)) so_far.zero other in
              absurd (omega (arith, (fresh-node 0 among).from_one))
        ];
        counted = omega (arith, count, so_far.counted, turn.spreads.counted);
        come = omega (arith, count, ahead);
        queued = λ k within. elim (place-cases k within) [
          | inl was ↦ let before = so_far.queued k was.0 in record { node = rw (stood k was.0).0 before.node; small = omega (arith, was.1, before.small) }
          | inr comes ↦ record {
            node = fresh-node (slice_index after k) comes.2;
            small = omega (arith, comes.0, comes.1, (so_far.queued done ahead).small, ahead);
          }
        ];
        listed = λ v node has. rw turn.queued (elim (label-cases v node.to_last has) [
          | inl was ↦ Contains-append_left queue turn.fresh v (so_far.listed v node was.0)
          | inr comes ↦ Contains-append_right queue turn.fresh v comes.0
        ]);
        ascending = ascending-next;
        close = close-next;
        scanned = λ k p before lies opened.
            let was = stood k (omega (arith, ahead)) in
            omega (arith, was.1, label-next k p before (rw was.0 at lies) opened);
        backed = backed-next;
      }

-- What is read of the queue is the next node, and its label plus one is a label.
pub node-read : {l : Links} {opens roots labels queue : List ℕ} {done node : ℕ} → AreLinks l → AreSpread l opens roots labels queue done
    → done < length queue → node ≡ get_or queue done node → (slice_index queue done ≡ node) × IsNode l.nodes node × (slice_index labels node + 1 < no_label)
node-read {labels = labels} {queue = queue} {done = done} {node = node} are so_far ahead read =
    let is : slice_index queue done ≡ node = get_or_default queue done 0 node ahead ∙ sym read in
    let next = so_far.queued done ahead in
    (is, rw (← is) next.node, omega (arith, ap (λ v. slice_index labels v) is, next.small, queue-short so_far, are.at_most_nodes))
