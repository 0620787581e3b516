use Rattle.dmf_vital.specs.Rest.{IsWhole}
use Rattle.dmf_vital.proofs.guess.guess_least.Given as goal

abbrev pub invariant-loop-k : goal.invariant-loop-k
invariant-loop-k g l = IsWhole l.state l.whole
