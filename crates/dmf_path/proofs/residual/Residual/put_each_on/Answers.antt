use Rattle.std.proofs.Common.{arith}
use Rattle.dmf_path.proofs.slots.Leaving.{putting-here, putting-next}
use Rattle.dmf_path.proofs.residual.Residual.put_each_on.Goals as goal

pub put_on-requires : goal.put_on-requires
put_on-requires c = record {
  slot = putting-here c.args.slots.now c.loop-slot.slot-index (omega arith) c.loop-slot.invariant;
}

pub loop-slot-preserved : goal.loop-slot-preserved
loop-slot-preserved c = putting-next c.args.slots.now c.loop-slot.slot-index (omega arith) c.loop-slot.invariant c.put_on.ensures
