-- The links of the next node are its own, and lead to nodes; a turn of the search.
use Rattle.std.proofs.Common.{◌≡◌, ◌≢◌, ◌+◌, ◌<◌, refl, sym, ◌∙◌, ap, arith, ◌∷◌, [], ◌++◌, length, take, slice_index, append_assoc, vec_capacity}
use Rattle.std.proofs.lemmas.Bool.{eqb-true, eqb-false}
use Rattle.std.proofs.lemmas.List.{get_or_default, length-append, take-append-le, with_items_is}
use Rattle.dmf_node.specs.Node.{IsNode}
use Rattle.dmf_links.specs.LinkTable.{links_of}
use Rattle.dmf_path.specs.Labels.{no_label}
use Rattle.dmf_path.specs.Frontier.{AreSpread, Expands}
use Rattle.dmf_path.proofs.labels.Labelling.{spread-queued}
use Rattle.dmf_path.proofs.labels.LabellingTurn.{node-read, spread-turn}
use Rattle.dmf_path.proofs.labels.Spreading.{spreads-skip, spreads-next}
use Rattle.dmf_path.proofs.frontier.Frontier.expand.Goals as goal
use Rattle.dmf_path.proofs.frontier.Frontier.expand.Goals.{After-index, After-loop-place}
use Rattle.dmf_path.proofs.frontier.Frontier.expand.Goals.{then-is_open+then-labels-head, else-is_open}
use Rattle.dmf_path.proofs.frontier.Frontier.expand.Goals.{else-is_open-via-then-is_open+else-labels-head, else-is_open-via-else-is_open}

-- the search so far, by its fields
so-far : (g : _) (c : After-index g) → AreSpread (links_of c.args.table.now) (g.O.OpenLinks.flags c.args.opens.now)
    (take c.self.inside.roots c.self.inside.queue.items) c.self.inside.labels.items c.self.inside.queue.items c.self.inside.done
so-far g c = rw (← c.self.view_is) at c.requires.so_far

ahead : (g : _) (c : After-index g) → c.self.inside.done < length c.self.inside.queue.items
ahead g c = rw (← c.self.view_is) at c.requires.ahead

-- the next node, and its label
next : (g : _) (c : After-index g) → (slice_index c.self.inside.queue.items c.self.inside.done ≡ c.index-node.result.now)
    × IsNode c.args.table.now.nodes c.index-node.result.now
    × (slice_index c.self.inside.labels.items c.index-node.result.now ≡ c.index.result.now) × (c.index.result.now + 1 < no_label)
next g c =
    let are = so-far g c in
    let node = node-read c.args.table.now.are are (ahead g c) c.index-node.ensures in
    let label = get_or_default c.self.inside.labels.items c.index-node.result.now 0 c.index.result.now (omega (arith, node.1.to_last, are.one_each))
    ∙ sym c.index.ensures in
    (node.0, node.1, label, omega (arith, node.2, label))

-- what the turn does
expands : (g : _) (c : After-loop-place g) → Expands (links_of c.args.table.now) (g.O.OpenLinks.flags c.args.opens.now) c.self.inside.labels.items
    c.self.inside.queue.items c.self.inside.done c.loop-place.labels c.loop-place.queue.items
expands g c =
    let node = next g (goal.at.After-loop-place g c).After-index in
    let spreads = c.loop-place.invariant.spreads in
    let last : c.loop-place.place ≡ c.places_at-places.result.end = omega (arith, c.loop-place.auto.place-end) in
    record {
      fresh = spreads.0;
      queued = spreads.1;
      spreads = rw (node.0, node.2, ← c.deref.ensures.value, ← c.places_at-places.ensures.start, ← c.places_at-places.ensures.end)
          (rw (last, c.deref_mut.ensures.value) at spreads.2);
    }

spread : (g : _) (c : After-loop-place g) → AreSpread (links_of c.args.table.now) (g.O.OpenLinks.flags c.args.opens.now)
    (take c.self.inside.roots c.self.inside.queue.items) c.loop-place.labels c.loop-place.queue.items (c.self.inside.done + 1)
spread g c =
    let at = (goal.at.After-loop-place g c).After-index in
    spread-turn c.args.table.now.are (so-far g at) (ahead g at) (c.loop-place.auto.labels ∙ ap length c.deref_mut.ensures.value) (expands g c)

pub loop-place-preserved : goal.loop-place-preserved
loop-place-preserved g c =
    let at = (goal.at.loop-place-preserved g c).After-index in
    let node = next g at in
    let so_far = c.loop-place.invariant.spreads in
    let p = c.loop-place.place in
    let head = slice_index c.deref.result.now p ∷ [] in
    let lies : p < length c.args.table.now.heads.items = omega (arith, c.loop-place-test.true, c.places_at-places.ensures.within, c.loop-place.auto.place-end) in
    let inside : slice_index c.deref.result.now p < length c.loop-place.labels =
    omega (
      arith,
      (c.args.table.now.are.each p lies).head.to_last,
      ap (λ hs. slice_index hs p) c.deref.ensures.value,
      (so-far g at).one_each,
      c.loop-place.auto.labels,
      ap length c.deref_mut.ensures.value,
    ) in
    let some : c.index.result.now + 1 ≢ no_label = λ none. omega (arith, none, node.3) in
    elim c.if-is_open.branch [
      | then-is_open+then-labels-head w ↦ record {
        spreads = (
          so_far.0 ++ head,
          ap (λ v. v.items) w.queue-is ∙ w.push_reserved.ensures.items ∙ ap (λ items. items ++ head) so_far.1
              ∙ append_assoc c.self.inside.queue.items so_far.0 head,
          rw w.labels-is (spreads-next so_far.2 (omega arith) (eqb-true _ 1 (sym c.is_open.ensures ∙ w.if-is_open.true)) w.if-labels-head.true inside some),
        );
        queue_capacity = ap (λ v. vec_capacity v) w.queue-is ∙ w.push_reserved.ensures.capacity ∙ c.loop-place.invariant.queue_capacity;
      }
      | else-is_open w ↦ record {
        spreads = (
          so_far.0,
          ap (λ v. v.items) w.queue-is ∙ so_far.1,
          rw w.labels-is (spreads-skip so_far.2 (λ opened none. elim w.else-is_open.branch [
            | else-is_open-via-then-is_open+else-labels-head w' ↦ w'.if-labels-head.false none
            | else-is_open-via-else-is_open w' ↦ absurd (eqb-false _ 1 (sym c.is_open.ensures ∙ w'.if-is_open.false) opened)
          ])),
        );
        queue_capacity = ap (λ v. vec_capacity v) w.queue-is ∙ c.loop-place.invariant.queue_capacity;
      }
    ]

pub invariant_of-self : goal.invariant_of-self
invariant_of-self g c =
    let at = (goal.at.invariant_of-self g c).After-loop-place in
    let spread = spread g at in
    let labels = with_items_is c.self.inside.labels c.loop-place.labels (c.loop-place.auto.labels ∙ c.deref_mut.ensures.len) in
    rw labels (
      spread-queued spread,
      omega (arith, c.self.invariant.1, c.loop-place.invariant.queue_capacity, c.loop-place.auto.labels, ap length c.deref_mut.ensures.value),
      spread.come,
      omega (arith, c.self.invariant.3, c.places_at-places.ensures.within, c.args.table.now.are.at_most),
      omega (arith, c.self.invariant.4, ap length c.loop-place.invariant.spreads.1, length-append c.self.inside.queue.items c.loop-place.invariant.spreads.0),
    )

pub returns : goal.returns
returns g c =
    let at = (goal.at.returns g c).After-loop-place in
    let labels = with_items_is c.self.inside.labels c.loop-place.labels (c.loop-place.auto.labels ∙ c.deref_mut.ensures.len) in
    let roots : take c.self.inside.roots c.loop-place.queue.items ≡ take c.self.inside.roots c.self.inside.queue.items =
    ap (take c.self.inside.roots) c.loop-place.invariant.spreads.1
    ∙ take-append-le c.self.inside.roots c.self.inside.queue.items c.loop-place.invariant.spreads.0 c.self.invariant.4 in
    rw (← c.self.view_is, labels) (record { so_far = rw roots (spread g at); expands = expands g at; done = refl; roots = roots })
