use Rattle.std.proofs.Common.{drop}
use Rattle.dmf_path.specs.Residual.{residual_of, put_each_on}
use Rattle.dmf_path.proofs.slots.Leaving.{IsPutting}
use Rattle.dmf_path.proofs.residual.Residual.put_each_on.Given as goal

abbrev pub invariant-loop-slot : goal.invariant-loop-slot
invariant-loop-slot l =
    IsPutting (residual_of l.self) l.sent (drop l.slot-index l.slots) (put_each_on (residual_of l.initial.self) l.sent l.slots)
