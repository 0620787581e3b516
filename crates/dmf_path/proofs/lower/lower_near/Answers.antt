-- A turn lowers the label of a node that is not the start, or none.
use Rattle.std.proofs.Common.{refl, ◌∙◌, arith}
use Rattle.dmf_path.proofs.labels.LoweredLabels.{lowered-from, lowered-again}
use Rattle.dmf_path.proofs.lower.lower_near.Goals as goal
use Rattle.dmf_path.proofs.lower.lower_near.Goals.{then-node-start, else-node-start}

pub lower_node-requires-clause-labels : goal.lower_node-requires-clause-labels
lower_node-requires-clause-labels c =
    let lowered = c.loop-back.invariant.lowered in
    record { whole = lowered.whole; current_is = lowered.current_is }

pub loop-back-init : goal.loop-back-init
loop-back-init c = record { lowered = lowered-from c.requires.labels; start = refl }

pub loop-back-preserved : goal.loop-back-preserved
loop-back-preserved c =
    let so_far = c.loop-back.invariant in
    elim c.if-node-start.branch [
      | then-node-start w ↦ rw (w.near-is, w.current-is) (record {
        lowered = lowered-again so_far.lowered w.lower_node.ensures.lowered;
        start = w.lower_node.ensures.others c.args.start (omega (arith, w.if-node-start.true)) ∙ so_far.start;
      })
      | else-node-start w ↦ rw (w.near-is, w.current-is) so_far
    ]
