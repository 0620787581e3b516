use Rattle.dmf_state.proofs.Ascending.{marked-skip, marked-push}
use Rattle.dmf_solver.proofs.side.marked_nodes.Goals.{then-mark+in_ok-push, else-mark}
use Rattle.dmf_solver.proofs.side.marked_nodes.Goals as goal

pub loop-k-preserved : goal.loop-k-preserved
loop-k-preserved c =
    elim c.if-mark.branch [
      | then-mark+in_ok-push w ↦ rw (w.ids-is, w.in_ok-push.ensures.items)
          (marked-push c.args.marks.now c.loop-k.k c.loop-k.ids.items w.if-mark.true c.loop-k.invariant)
      | else-mark w ↦ rw w.ids-is (marked-skip c.args.marks.now c.loop-k.k c.loop-k.ids.items w.if-mark.false c.loop-k.invariant)
    ]
