use Rattle.std.proofs.Common.{Result, Ok, Err, subst, sym}
use Rattle.std.proofs.lemmas.Result.{err_from_is_err_and}
use Rattle.dmf_text.specs.Streams.{Writer}
use Rattle.dmf_text.specs.Writing.{Writes}
use Rattle.dmf_streams.specs.declared.fault.Status.{Status}
use Rattle.dmf_streams.specs.declared.fault.Status.TheVariants.{Well}
use Rattle.dmf_streams.specs.declared.fault.EngineFault.{EngineFault}
use Rattle.dmf_streams.specs.declared.fault.EngineFault.TheVariants.{Write}
use Rattle.dmf_streams.specs.Reading.{HasGiven}
use Rattle.dmf_streams.proofs.Giving.{given}
use Rattle.dmf_streams.proofs.ReplyLemmas.{Writes-flushed}
use Rattle.dmf_state.specs.Network.{Network}
use Rattle.dmf_solver.specs.Planning.{IsSideWanted}
use Rattle.dmf_solving.specs.Solved.{brief_text}
use Rattle.dmf_solving.specs.SolveRun.{WritesValue}
use Rattle.dmf_solving.proofs.SolvedValue.{same-brief, solved-as}
use Rattle.dmf_solving.proofs.any_flow.run_solve_brief.Given.{Over}
use Rattle.dmf_solving.proofs.any_flow.run_solve_brief.Goals as goal
use Rattle.dmf_solving.proofs.any_flow.run_solve_brief.Goals.{After-write_brief}

-- the value was written, or a prefix of its text
writes-value : (g : Over) (c : After-write_brief g) (new : Writer) (result : Result Status EngineFault) → Writes (g.W.Sink.written c.args.out.now) new result
    (brief_text c.in_ok-solved.solved.state c.in_ok-solved.solved.side)
    → HasGiven (g.P.Source.left c.args.problem.now) (g.P.Source.left c.read_state.new.source) (λ text. WritesValue c.args.want_cut
    (g.P.Source.left c.args.problem.now) (g.P.Source.left c.read_state.new.source) (g.W.Sink.written c.args.out.now) new text result)
writes-value g c new result writes = given c.in_ok-state.ensures (λ text problem.
    let reached = c.in_ok-solved.solved.state in
    let side = c.in_ok-solved.solved.side in
    let state = c.accepted_is_state.ensures text c.in_ok-state.state problem.1 in
    let found = solved-as c.in_ok-state.state reached state c.in_ok-solved.ensures.network c.in_ok-solved.ensures.greatest in
    record {
      state = c.in_ok-state.state;
      problem = problem;
      solved = found.solved;
      becomes = found.becomes;
      side = side;
      side_is = subst (λ (n : Network). IsSideWanted c.args.want_cut n side) (sym found.network) c.in_ok-solved.ensures.side;
      writes = subst (λ told. Writes (g.W.Sink.written c.args.out.now) new result told) (sym (same-brief found.solved reached side found.value)) writes;
    })

pub returns-in_err-write_brief-clause-run : goal.returns-in_err-write_brief-clause-run
returns-in_err-write_brief-clause-run g c =
    let failed = err_from_is_err_and c.from_residual-in_err-write_brief.result c.from_residual-in_err-write_brief.ensures.1 in
    rw (failed.1, failed.2)
    (writes-value g (goal.at.returns-in_err-write_brief-clause-run g c).After-write_brief _ (Err Write) c.in_err-write_brief.ensures)

pub returns-in_err-flush-clause-run : goal.returns-in_err-flush-clause-run
returns-in_err-flush-clause-run g c =
    let failed = err_from_is_err_and c.from_residual-in_err-flush.result c.from_residual-in_err-flush.ensures.1 in
    rw (failed.1, failed.2) (writes-value g (goal.at.returns-in_err-flush-clause-run g c).After-write_brief (g.W.Sink.written c.flush.new.out) (Err Write)
    (Writes-flushed {V = Status} _ (g.W.Sink.written c.write_brief.new.out) _ (Err Write) _ c.in_ok-write_brief.ensures c.in_err-flush.ensures))

pub returns-clause-run : goal.returns-clause-run
returns-clause-run g c =
    writes-value g (goal.at.returns-clause-run g c).After-write_brief (g.W.Sink.written c.flush.new.out) (Ok Well)
    (Writes-flushed {E = EngineFault} _ (g.W.Sink.written c.write_brief.new.out) (g.W.Sink.written c.flush.new.out) (Ok Well) _
    c.in_ok-write_brief.ensures c.in_ok-flush.ensures)
