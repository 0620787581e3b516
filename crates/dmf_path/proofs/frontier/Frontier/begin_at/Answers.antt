-- Root by root gets the label 0 and is queued, unless it has it.
use Rattle.std.proofs.Common.{◌≡◌, ◌-◌, ◌<◌, ◌++◌, ◌∷◌, [], length, take, get_or, refl, ap, ◌∙◌, arith, vec_capacity}
use Rattle.std.proofs.lemmas.List.{take_all, with_items_is}
use Rattle.std.proofs.lemmas.List.Elements.{Contains-get_or}
use Rattle.dmf_node.specs.Node.{IsNode}
use Rattle.dmf_path.specs.Reach.{Reach}
use Rattle.dmf_path.proofs.labels.Roots.{beginning-last, beginning-next, beginning-skip, roots-none, roots-queued}
use Rattle.dmf_path.proofs.labels.Spreading.{unlabelled_count-set}
use Rattle.dmf_path.proofs.frontier.Frontier.begin_at.Goals as goal
use Rattle.dmf_path.proofs.frontier.Frontier.begin_at.Goals.{In-loop-root, After-len-self-inside, then-labels-root, else-labels-root}

pub loop-root-init : goal.loop-root-init
loop-root-init c = record {
  beginning = rw c.clear.ensures.items (record {
    are = roots-none (c.deref_mut.ensures.value ∙ ap (λ (f : Reach). f.labels) c.self.view_is ∙ c.requires.clean);
    from = λ v none. absurd (omega (arith, none.1));
    covered = λ i none. absurd (omega (arith, none));
  });
  queue_capacity = refl;
}

-- The next root is a node, which has a label.
node : (c : In-loop-root) → IsNode (length c.args.self.now.labels - 1) (get_or c.args.roots.now c.loop-root.root-index 0)
node c = c.requires.roots (get_or c.args.roots.now c.loop-root.root-index 0) (Contains-get_or c.args.roots.now c.loop-root.root-index 0 c.loop-root-test.true)

pub bounds-labels-root : goal.bounds-labels-root
bounds-labels-root c = omega (arith, (node (goal.at.bounds-labels-root c).In-loop-root).to_last, c.loop-root.invariant.beginning.are.one_each)

pub push_reserved-requires : goal.push_reserved-requires
push_reserved-requires c =
    let are = c.loop-root.invariant.beginning.are in
    let root = get_or c.args.roots.now c.loop-root.root-index 0 in
    let inside : root < length c.loop-root.labels = omega (arith, (node (goal.at.push_reserved-requires c).In-loop-root).to_last, are.one_each) in
    let less = unlabelled_count-set c.loop-root.labels root 0 inside c.if-labels-root.true (omega arith) in
    omega (
      arith,
      are.counted,
      are.one_each,
      less,
      c.loop-root.queue.ok.0,
      c.loop-root.invariant.queue_capacity,
      c.clear.ensures.capacity,
      c.self.invariant.1,
      c.loop-root.auto.labels,
      ap length c.deref_mut.ensures.value,
    )

pub loop-root-preserved : goal.loop-root-preserved
loop-root-preserved c =
    let i = c.loop-root.invariant in
    let root = get_or c.args.roots.now c.loop-root.root-index 0 in
    let node = node (goal.at.loop-root-preserved c).In-loop-root in
    elim c.if-labels-root.branch [
      | then-labels-root w ↦
          let items : c.if-labels-root.queue.items ≡ c.loop-root.queue.items ++ root ∷ [] = ap (λ q. q.items) w.queue-is ∙ w.push_reserved.ensures.items in
          record {
            beginning = rw (w.labels-is, items) (beginning-next i.beginning c.loop-root-test.true node w.if-labels-root.true);
            queue_capacity = ap (λ q. vec_capacity q) w.queue-is ∙ w.push_reserved.ensures.capacity ∙ i.queue_capacity;
          }
      | else-labels-root w ↦ record {
        beginning = rw (w.labels-is, ap (λ q. q.items) w.queue-is) (beginning-skip i.beginning c.loop-root-test.true node w.if-labels-root.false);
        queue_capacity = ap (λ q. vec_capacity q) w.queue-is ∙ i.queue_capacity;
      }
    ]

pub invariant_of-self : goal.invariant_of-self
invariant_of-self c =
    let labels = with_items_is c.self.inside.labels c.loop-root.labels (c.loop-root.auto.labels ∙ c.deref_mut.ensures.len) in
    let i = c.loop-root.invariant in
    rw labels (
      roots-queued i.beginning.are,
      omega (
        arith,
        i.queue_capacity,
        c.clear.ensures.capacity,
        c.self.invariant.1,
        c.loop-root.auto.labels,
        ap length c.deref_mut.ensures.value,
      ),
      omega arith,
      omega arith,
      omega (arith, c.len-self-inside.ensures, c.loop-root.queue.ok.0),
    )

-- All of the queue are roots.
all : (c : After-len-self-inside) → take c.len-self-inside.result c.loop-root.queue.items ≡ c.loop-root.queue.items
all c = take_all c.len-self-inside.result c.loop-root.queue.items (omega (arith, c.len-self-inside.ensures, c.loop-root.queue.ok.0))

pub returns-clause-begun : goal.returns-clause-begun
returns-clause-begun c =
    let labels = with_items_is c.self.inside.labels c.loop-root.labels (c.loop-root.auto.labels ∙ c.deref_mut.ensures.len) in
    rw labels (record { are = c.loop-root.invariant.beginning.are; roots_are = all (goal.at.returns-clause-begun c).After-len-self-inside; done = refl })

pub returns-clause-roots : goal.returns-clause-roots
returns-clause-roots c =
    rw (all (goal.at.returns-clause-roots c).After-len-self-inside) (beginning-last c.loop-root.invariant.beginning c.loop-root-test.false)
