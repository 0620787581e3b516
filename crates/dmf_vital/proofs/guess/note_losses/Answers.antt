use Rattle.std.proofs.Common.{◌+◌, ap, arith, length}
use Rattle.dmf_vital.proofs.Chained.{has-arc}
use Rattle.dmf_vital.proofs.guess.note_losses.Goals as goal

pub note_second-requires-clause-is_there : goal.note_second-requires-clause-is_there
note_second-requires-clause-is_there g c = has-arc c.args.state.now.network (c.loop-k.k + 1) (omega arith)
    (omega (arith, c.loop-k-test.true, ap length c.arcs-k-end.ensures.value))
