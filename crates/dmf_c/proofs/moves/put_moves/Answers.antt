use Rattle.std.proofs.Common.{arith, take, get_or}
use Rattle.std.proofs.lemmas.List.{length-take-le}
use Rattle.dmf_c.proofs.Filling.{length-differing, left-out, put-last, has-more}
use Rattle.dmf_c.specs.Differing.{differing}
use Rattle.dmf_c.specs.Moved.{no_move}
use Rattle.dmf_c.proofs.moves.put_moves.Goals.{then-m, else-m}
use Rattle.dmf_c.proofs.moves.put_moves.Goals as goal

pub overflow_add-count : goal.overflow_add-count
overflow_add-count c =
    let i = c.loop-m.m-index in
    let seen = take i c.args.moves.now in
    let long = length-take-le i c.args.moves.now (omega (arith, c.loop-m-test.true)) in
    omega (arith, c.loop-m.invariant.count, length-differing seen, long, c.loop-m-test.true, c.loop-m.auto.m-index-end)

pub loop-m-preserved : goal.loop-m-preserved
loop-m-preserved c =
    let moves = c.args.moves.now in
    let i = c.loop-m.m-index in
    elim c.if-m.branch [
      | then-m w ↦
          rw (w.count-is, w.arcs-is, w.before-is, w.after-is, w.put_arc.ensures, w.put_flow.ensures, w.put_flow-then-m.ensures, put-last moves i c.loop-m-test.true w.if-m.true)
          (has-more (differing (take i moves)) c.args.arcs.now c.loop-m.arcs c.args.before.now c.loop-m.before c.args.after.now c.loop-m.after c.loop-m.count c.loop-m.invariant (get_or moves i no_move))
      | else-m w ↦
          rw (w.count-is, w.arcs-is, w.before-is, w.after-is, left-out moves i c.loop-m-test.true w.if-m.false) c.loop-m.invariant
    ]
