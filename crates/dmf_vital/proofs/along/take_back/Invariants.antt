use Rattle.std.proofs.Common.{◌≡◌, ◌≤◌, length}
use Rattle.dmf_vital.specs.Sent.{taken_back}
use Rattle.dmf_vital.proofs.along.take_back.Given as goal

-- What is left to be taken back takes back all.
abbrev pub invariant-loop-left : goal.invariant-loop-left
invariant-loop-left l = record {
  within : l.left ≤ length l.before;
  back : taken_back l.before l.left l.flows ≡ taken_back l.before l.count l.fn.flows;
}

abbrev pub decreases-loop-left : goal.decreases-loop-left
decreases-loop-left l = l.left
