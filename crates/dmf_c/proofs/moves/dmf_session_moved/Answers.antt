use Rattle.std.proofs.Common.{subst, List}
use Rattle.dmf_state.specs.declared.edit.Move.{Move}
use Rattle.dmf_history.specs.Timeline.{LeadsBack}
use Rattle.dmf_c.specs.Differing.{differing}
use Rattle.dmf_c.specs.Moved.{HasMoves}
use Rattle.dmf_c.proofs.LastMoved.{last-moved}
use Rattle.dmf_c.proofs.moves.dmf_session_moved.Goals as goal

pub returns-in-Some-clause-filled : goal.returns-in-Some-clause-filled
returns-in-Some-clause-filled c = λ _.
    let a = c.args in
    let new = c.put_moves.new in
    let edit = c.in-Some.edit.now in
    let P = λ (moves : List Move). HasMoves moves a.arcs.now new.arcs a.before.now new.before a.after.now new.after c.put_moves.result in
    last-moved c.reverting_gives_back.ensures a.session.now.timeline edit P
    (subst (LeadsBack edit) c.plan.ensures.value c.in-Some.ensures.edit)
    (subst (λ (moves : List Move). P (differing moves)) c.moves.ensures c.put_moves.ensures)
