use Rattle.std.proofs.Common.{Result, Ok, Err}
use Rattle.std.proofs.lemmas.Result.{err_from_is_err_and}
use Rattle.dmf_text.specs.Streams.{Writer}
use Rattle.dmf_text.specs.Writing.{Writes}
use Rattle.dmf_streams.specs.declared.fault.Status.{Status}
use Rattle.dmf_streams.specs.declared.fault.Status.TheVariants.{Well}
use Rattle.dmf_streams.specs.declared.fault.EngineFault.{EngineFault}
use Rattle.dmf_streams.specs.declared.fault.EngineFault.TheVariants.{Write}
use Rattle.dmf_streams.specs.Reading.{HasGiven}
use Rattle.dmf_streams.proofs.Giving.{given}
use Rattle.dmf_streams.proofs.ReplyLemmas.{Writes-flushed}
use Rattle.dmf_solving.specs.Solved.{solved_text}
use Rattle.dmf_solving.specs.SolveRun.{WritesSolved}
use Rattle.dmf_solving.proofs.solve.run_solve_watched.Given.{Over}
use Rattle.dmf_solving.proofs.solve.run_solve_watched.Goals as goal
use Rattle.dmf_solving.proofs.solve.run_solve_watched.Goals.{After-write_solved}

-- the solution was written, or a prefix of it
writes-solved : (g : Over) (c : After-write_solved g) (new : Writer) (result : Result Status EngineFault) → Writes (g.W.Sink.written c.args.out.now) new result
    (solved_text c.in_ok-solved.solved.state c.in_ok-solved.solved.side)
    → HasGiven (g.P.Source.left c.args.problem.now) (g.P.Source.left c.read_state.new.source) (λ text. WritesSolved c.args.want_cut
    (g.P.Source.left c.args.problem.now) (g.P.Source.left c.read_state.new.source) (g.W.Sink.written c.args.out.now) new text result)
writes-solved g c new result writes = given c.in_ok-state.ensures (λ text problem. record {
  state = c.in_ok-state.state;
  problem = problem;
  solved = c.in_ok-solved.solved.state;
  becomes = c.in_ok-solved.ensures.becomes;
  side = c.in_ok-solved.solved.side;
  side_is = c.in_ok-solved.ensures.side;
  writes = writes;
})

pub returns-in_err-write_solved-clause-run : goal.returns-in_err-write_solved-clause-run
returns-in_err-write_solved-clause-run g c =
    let failed = err_from_is_err_and c.from_residual-in_err-write_solved.result c.from_residual-in_err-write_solved.ensures.1 in
    rw (failed.1, failed.2)
    (writes-solved g (goal.at.returns-in_err-write_solved-clause-run g c).After-write_solved _ (Err Write) c.in_err-write_solved.ensures)

pub returns-in_err-flush-clause-run : goal.returns-in_err-flush-clause-run
returns-in_err-flush-clause-run g c =
    let failed = err_from_is_err_and c.from_residual-in_err-flush.result c.from_residual-in_err-flush.ensures.1 in
    rw (failed.1, failed.2) (writes-solved g (goal.at.returns-in_err-flush-clause-run g c).After-write_solved (g.W.Sink.written c.flush.new.out) (Err Write)
    (Writes-flushed {V = Status} _ (g.W.Sink.written c.write_solved.new.out) _ (Err Write) _ c.in_ok-write_solved.ensures c.in_err-flush.ensures))

pub returns-clause-run : goal.returns-clause-run
returns-clause-run g c =
    writes-solved g (goal.at.returns-clause-run g c).After-write_solved (g.W.Sink.written c.flush.new.out) (Ok Well)
    (Writes-flushed {E = EngineFault} _ (g.W.Sink.written c.write_solved.new.out) (g.W.Sink.written c.flush.new.out) (Ok Well) _
    c.in_ok-write_solved.ensures c.in_ok-flush.ensures)
