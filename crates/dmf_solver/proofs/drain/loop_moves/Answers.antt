use Rattle.std.proofs.Common.{[], ◌∷◌, ◌++◌, ◌∙◌, ap}
use Rattle.dmf_solver.proofs.drain.loop_moves.Goals as goal

pub returns : goal.returns
returns c =
    c.in_ok-push.ensures.items
    ∙ ap (λ moves. moves ++ record { arc = c.args.j; from = c.args.flow; to = c.args.limit } ∷ []) c.new-moves.ensures.items
