use Rattle.std.proofs.Common.{◌∙◌, ap, arith, replicate}
use Rattle.dmf_path.specs.Labels.{no_label}
use Rattle.dmf_path.proofs.labels.Labelling.{left-first, left-next, left-last}
use Rattle.dmf_path.proofs.label.clear_queued.Goals as goal

pub loop-node-init : goal.loop-node-init
loop-node-init c = left-first c.args.labels.now c.args.queue.now c.requires.queued

pub loop-node-preserved : goal.loop-node-preserved
loop-node-preserved c =
    left-next c.loop-node.labels c.args.queue.now c.loop-node.node-index
    (omega (arith, c.requires.queued.within c.loop-node.node-index c.loop-node-test.true, c.loop-node.auto.labels)) c.loop-node.invariant

pub returns : goal.returns
returns c =
    left-last c.loop-node.labels c.args.queue.now c.loop-node.node-index c.loop-node-test.false c.loop-node.invariant ∙ ap (λ n. replicate n no_label)
    c.loop-node.auto.labels
