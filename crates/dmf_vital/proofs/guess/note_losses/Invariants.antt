use Rattle.dmf_vital.specs.Rest.{IsRest}
use Rattle.dmf_vital.proofs.guess.note_losses.Given as goal

abbrev pub invariant-loop-k : goal.invariant-loop-k
invariant-loop-k g l = IsRest l.state.network l.rest
