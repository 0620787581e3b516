-- The labels where the loop ends.
use Rattle.std.proofs.Common.{inl, inr, arith}
use Rattle.dmf_path.proofs.labels.Labelling.{labels-spread}
use Rattle.dmf_path.proofs.frontier.Frontier.label_within.Goals as goal

pub returns-else-not-has_label-clause-labels : goal.returns-else-not-has_label-clause-labels
returns-else-not-has_label-clause-labels g c ended =
    rw (← c.loop-self.invariant.roots) (labels-spread c.loop-self.invariant.so_far c.args.stop c.args.table.now.are c.requires.stop
    (inr (c.has_label.ensures.has c.if-not-has_label.false)))

pub returns-after-loop-self-clause-labels : goal.returns-after-loop-self-clause-labels
returns-after-loop-self-clause-labels g c ended =
    rw (← c.loop-self.invariant.roots) (labels-spread c.loop-self.invariant.so_far c.args.stop c.args.table.now.are c.requires.stop
    (inl (omega (arith, c.loop-self.invariant.so_far.come, c.has_next.ensures.none c.loop-self-test.false))))
