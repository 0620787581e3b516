-- Each pass keeps what the one before kept.
use Rattle.std.proofs.Common.{◌∙◌, refl}
use Rattle.dmf_path.proofs.labels.LoweredLabels.{lowered-from, lowered-again}
use Rattle.dmf_path.proofs.redirect.lower_labels.Goals as goal

pub lower_near-requires-clause-labels : goal.lower_near-requires-clause-labels
lower_near-requires-clause-labels c =
    let lowered = c.loop.invariant.lowered in
    record { whole = lowered.whole; current_is = lowered.current_is }

pub loop-init : goal.loop-init
loop-init c = record { lowered = lowered-from c.requires.labels; start = refl }

pub loop-preserved : goal.loop-preserved
loop-preserved c = record {
  lowered = lowered-again c.loop.invariant.lowered c.lower_near.ensures.lowered;
  start = c.lower_near.ensures.start ∙ c.loop.invariant.start;
}

pub returns-then-label-before-clause-lowered : goal.returns-then-label-before-clause-lowered
returns-then-label-before-clause-lowered c = lowered-again c.loop.invariant.lowered c.lower_near.ensures.lowered
