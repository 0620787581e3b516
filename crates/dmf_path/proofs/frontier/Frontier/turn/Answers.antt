-- Each node gets its label, and is queued.
use Rattle.std.proofs.Common.{◌∙◌, arith}
use Rattle.std.proofs.lemmas.List.{with_items_is}
use Rattle.dmf_path.proofs.labels.FromStart.{turning-next, turning-last}
use Rattle.dmf_path.proofs.frontier.Frontier.turn.Goals as goal

pub loop-node-preserved : goal.loop-node-preserved
loop-node-preserved c =
    let i = c.loop-node.invariant in
    record {
      turning = rw c.push_reserved.ensures.items (turning-next i.turning (omega arith) (omega (arith, c.loop-node.auto.node-end)) c.saturating_sub.ensures);
      capacity = c.push_reserved.ensures.capacity ∙ i.capacity;
    }

pub returns : goal.returns
returns c =
    let labels = with_items_is c.self.inside.labels c.loop-node.labels (c.loop-node.auto.labels ∙ c.deref_mut.ensures.len) in
    rw (labels, ← c.labels-distances.ensures) (turning-last c.loop-node.invariant.turning (omega arith))
