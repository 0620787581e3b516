use Rattle.std.proofs.Common.{Result, Ok, Err}
use Rattle.std.proofs.lemmas.Result.{err_from_is_err_and}
use Rattle.dmf_text.specs.Streams.{Writer}
use Rattle.dmf_text.specs.Writing.{Writes}
use Rattle.dmf_streams.specs.declared.fault.Status.{Status}
use Rattle.dmf_streams.specs.declared.fault.Status.TheVariants.{Well}
use Rattle.dmf_streams.specs.declared.fault.EngineFault.{EngineFault}
use Rattle.dmf_streams.specs.declared.fault.EngineFault.TheVariants.{Write}
use Rattle.dmf_streams.specs.Reading.{HasGiven}
use Rattle.dmf_streams.proofs.Giving.{given}
use Rattle.dmf_streams.proofs.ReplyLemmas.{Writes-flushed}
use Rattle.dmf_solving.specs.Solved.{solved_text}
use Rattle.dmf_solving.specs.SolveRun.{WritesAny}
use Rattle.dmf_solving.proofs.any_flow.run_solve_any.Given.{Over}
use Rattle.dmf_solving.proofs.any_flow.run_solve_any.Goals as goal
use Rattle.dmf_solving.proofs.any_flow.run_solve_any.Goals.{After-write_solved}

-- the solution was written, or a prefix of it
writes-any : (g : Over) (c : After-write_solved g) (new : Writer) (result : Result Status EngineFault) → Writes (g.W.Sink.written c.args.out.now) new result
    (solved_text c.in_ok-solved.solved.state c.in_ok-solved.solved.side)
    → HasGiven (g.P.Source.left c.args.problem.now) (g.P.Source.left c.read_state.new.source) (λ text. WritesAny c.args.want_cut
    (g.P.Source.left c.args.problem.now) (g.P.Source.left c.read_state.new.source) (g.W.Sink.written c.args.out.now) new text result)
writes-any g c new result writes = given c.in_ok-state.ensures (λ text problem. record {
  state = c.in_ok-state.state;
  problem = problem;
  solved = c.in_ok-solved.solved.state;
  network = c.in_ok-solved.ensures.network;
  greatest = c.in_ok-solved.ensures.greatest;
  side = c.in_ok-solved.solved.side;
  side_is = c.in_ok-solved.ensures.side;
  writes = writes;
})

pub returns-in_err-flush-clause-run : goal.returns-in_err-flush-clause-run
returns-in_err-flush-clause-run g c =
    let failed = err_from_is_err_and c.from_residual-in_err-flush.result c.from_residual-in_err-flush.ensures.1 in
    rw (failed.1, failed.2) (writes-any g (goal.at.returns-in_err-flush-clause-run g c).After-write_solved (g.W.Sink.written c.flush.new.out) (Err Write)
    (Writes-flushed {V = Status} _ (g.W.Sink.written c.write_solved.new.out) _ (Err Write) _ c.in_ok-write_solved.ensures c.in_err-flush.ensures))

pub returns-clause-run : goal.returns-clause-run
returns-clause-run g c =
    writes-any g (goal.at.returns-clause-run g c).After-write_solved (g.W.Sink.written c.flush.new.out) (Ok Well)
    (Writes-flushed {E = EngineFault} _ (g.W.Sink.written c.write_solved.new.out) (g.W.Sink.written c.flush.new.out) (Ok Well) _
    c.in_ok-write_solved.ensures c.in_ok-flush.ensures)
