use Rattle.std.proofs.Common.{◌+◌, ap, arith, length}
use Rattle.dmf_vital.proofs.Chained.{has-arc}
use Rattle.dmf_vital.proofs.least_loss.note_above.Goals as goal

pub note_arc-requires-clause-is_there : goal.note_arc-requires-clause-is_there
note_arc-requires-clause-is_there g c = has-arc c.args.state.now.network (c.loop-k.k + 1) (omega arith)
    (omega (arith, c.loop-k-test.true, ap length c.arcs-k-end.ensures.value))
