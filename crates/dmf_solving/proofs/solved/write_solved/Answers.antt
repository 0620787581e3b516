use Rattle.std.proofs.Common.{refl}
use Rattle.dmf_text.specs.Written.{solution_text}
use Rattle.dmf_text.proofs.WritingLemmas.{first-failed, first-put}
use Rattle.dmf_solving.specs.Solved.{side_text}
use Rattle.dmf_solving.proofs.solved.write_solved.Goals as goal

pub returns-in_err-write_solution : goal.returns-in_err-write_solution
returns-in_err-write_solution g c =
    first-failed _ _ _ _ _ (solution_text c.args.state.now) (side_text c.args.side.now) c.from_residual.ensures.1 refl c.in_err-write_solution.ensures.written

pub returns : goal.returns
returns g c =
    first-put _ (g.W.Sink.written c.write_solution.new.out) _ _ _ (solution_text c.args.state.now)
    (side_text c.args.side.now) refl c.in_ok-write_solution.ensures.written c.write_side.ensures
