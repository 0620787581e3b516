-- The labels are joined node by node: a node that has no label of the goal's side gets one.
use Rattle.std.proofs.Common.{◌≡◌, ◌≢◌, ◌+◌, ◌<◌, ◌++◌, ◌∷◌, [], length, get_or, inl, refl, ap, sym, ◌∙◌, arith, vec_capacity}
use Rattle.std.proofs.lemmas.List.{length_push, with_items_is}
use Rattle.dmf_path.specs.Labels.{no_label, AreQueued}
use Rattle.dmf_path.proofs.labels.Spreading.{unlabelled_count-set}
use Rattle.dmf_path.proofs.labels.Joining.{joining-skip, joining-next, joining-last}
use Rattle.dmf_path.proofs.frontier.Frontier.join_before.Goals as goal
use Rattle.dmf_path.proofs.frontier.Frontier.join_before.Goals.{After-deref_mut, then-labels-node, else-labels-node}

-- the nodes of the other side, and their labels
queued : (c : After-deref_mut) → AreQueued c.labels-distances.result.now c.queue-nodes.result.now
queued c = rw (c.labels-distances.ensures, c.queue-nodes.ensures.value) c.queue-nodes.ensures.queued

one-each : (c : After-deref_mut) → length c.deref_mut.result.now ≡ length c.labels-distances.result.now
one-each c = ap length c.deref_mut.ensures.value ∙ (rw (← c.self.view_is) at c.requires.one_label_each) ∙ sym (ap length c.labels-distances.ensures)

pub loop-node-init : goal.loop-node-init
loop-node-init c = record {
  joining = record {
    one_each = refl;
    each = λ v within. inl refl;
    done = λ i none. absurd (omega (arith, none));
    queued = rw c.deref_mut.ensures.value c.self.invariant.0;
    room =
        let counted = rw (← c.self.view_is) at c.requires.counted in
        rw c.deref_mut.ensures.value (omega (arith, counted));
  };
  queue_capacity = refl;
  longer = omega arith;
}

pub push_reserved-requires : goal.push_reserved-requires
push_reserved-requires c =
    let at = (goal.at.push_reserved-requires c).After-deref_mut in
    let k = c.loop-node.node-index in
    let so_far = c.loop-node.invariant.joining in
    let v = get_or c.queue-nodes.result.now k 0 in
    let inside : v < length c.loop-node.labels = omega (arith, (queued at).within k c.loop-node-test.true, so_far.one_each, one-each at) in
    let labelled = rw (← c.labels-distances.ensures, ← c.queue-nodes.ensures.value) at c.requires.labelled in
    let fits = rw (← c.labels-distances.ensures) at c.requires.small in
    let has : c.args.long + get_or c.labels-distances.result.now v 0 ≢ no_label = λ none. omega (arith, none, fits v (labelled k c.loop-node-test.true)) in
    let less = unlabelled_count-set c.loop-node.labels v (c.args.long + get_or c.labels-distances.result.now v 0) inside c.if-labels-node.true has in
    omega (arith, so_far.room, less, c.loop-node.invariant.queue_capacity, c.loop-node.queue.ok.0, c.self.invariant.1, ap length c.deref_mut.ensures.value)

pub loop-node-preserved : goal.loop-node-preserved
loop-node-preserved c =
    let at = (goal.at.loop-node-preserved c).After-deref_mut in
    let k = c.loop-node.node-index in
    let so_far = c.loop-node.invariant.joining in
    let v = get_or c.queue-nodes.result.now k 0 in
    let inside : v < length c.loop-node.labels = omega (arith, (queued at).within k c.loop-node-test.true, so_far.one_each, one-each at) in
    let labelled = rw (← c.labels-distances.ensures, ← c.queue-nodes.ensures.value) at c.requires.labelled in
    let fits = rw (← c.labels-distances.ensures) at c.requires.small in
    elim c.if-labels-node.branch [
      | then-labels-node w ↦
          let items : c.if-labels-node.queue.items ≡ c.loop-node.queue.items ++ v ∷ [] = ap (λ q. q.items) w.queue-is ∙ w.push_reserved.ensures.items in
          record {
            joining = rw (w.labels-is, items)
                (joining-next so_far inside w.if-labels-node.true (labelled k c.loop-node-test.true) (λ none. omega (arith, none, fits v (labelled k c.loop-node-test.true))));
            queue_capacity = ap (λ q. vec_capacity q) w.queue-is ∙ w.push_reserved.ensures.capacity ∙ c.loop-node.invariant.queue_capacity;
            longer = omega (arith, ap length items, length_push c.loop-node.queue.items v, c.loop-node.invariant.longer);
          }
      | else-labels-node w ↦
          let items : c.if-labels-node.queue.items ≡ c.loop-node.queue.items = ap (λ q. q.items) w.queue-is in
          record {
            joining = rw (w.labels-is, items) (joining-skip so_far inside w.if-labels-node.false);
            queue_capacity = ap (λ q. vec_capacity q) w.queue-is ∙ c.loop-node.invariant.queue_capacity;
            longer = omega (arith, ap length items, c.loop-node.invariant.longer);
          }
    ]

pub invariant_of-self : goal.invariant_of-self
invariant_of-self c =
    let labels = with_items_is c.self.inside.labels c.loop-node.labels (c.loop-node.auto.labels ∙ c.deref_mut.ensures.len) in
    let i = c.loop-node.invariant in
    rw labels (
      i.joining.queued,
      omega (arith, c.self.invariant.1, i.queue_capacity, c.loop-node.auto.labels, ap length c.deref_mut.ensures.value),
      omega (arith, c.self.invariant.2, i.longer),
      c.self.invariant.3,
      omega (arith, c.self.invariant.4, i.longer),
    )

pub returns : goal.returns
returns c =
    let at = (goal.at.returns c).After-deref_mut in
    let labels = with_items_is c.self.inside.labels c.loop-node.labels (c.loop-node.auto.labels ∙ c.deref_mut.ensures.len) in
    rw (← c.self.view_is, labels, ← c.deref_mut.ensures.value, ← c.labels-distances.ensures)
    (joining-last c.loop-node.invariant.joining c.loop-node-test.false (one-each at) (queued at))
