use Rattle.std.proofs.Common.{Result, Ok, Err, inl, inr, map, refl, subst, sym}
use Rattle.std.proofs.lemmas.Result.{err_from_is_err_and}
use Rattle.dmf_state.specs.Network.{Network}
use Rattle.dmf_text.specs.Streams.{Writer}
use Rattle.dmf_text.specs.Writing.{Writes}
use Rattle.dmf_streams.specs.declared.fault.Status.{Status}
use Rattle.dmf_streams.specs.declared.fault.Status.TheVariants.{Well}
use Rattle.dmf_streams.specs.declared.fault.EngineFault.{EngineFault}
use Rattle.dmf_streams.specs.declared.fault.EngineFault.TheVariants.{Write}
use Rattle.dmf_streams.specs.Reading.{HasGiven}
use Rattle.dmf_streams.proofs.Giving.{given}
use Rattle.dmf_streams.proofs.ReplyLemmas.{Writes-flushed}
use Rattle.dmf_vital.specs.GreatestValue.{IsGreatestValue}
use Rattle.dmf_valuing.specs.PartRows.{ArePartRows, PartsLackRoom, row_of}
use Rattle.dmf_valuing.specs.Rows.{vital_text}
use Rattle.dmf_valuing.specs.VitalRun.{WritesVital}
use Rattle.dmf_valuing.proofs.vital.run_valuing.Given.{Over}
use Rattle.dmf_valuing.proofs.vital.run_valuing.Goals as goal
use Rattle.dmf_valuing.proofs.vital.run_valuing.Goals.{After-write_vital}

-- what was found, as it is written
are-rows : (g : Over) (c : After-write_vital g) → ArePartRows c.args.parts c.in_ok-solved.solved.state.network (map row_of c.deref.result.now)
are-rows g c = rw c.deref.ensures.value c.in_ok-rows.ensures.rows

-- the value and the rows were written, or a prefix of them
writes-vital : (g : Over) (c : After-write_vital g) (new : Writer) (result : Result Status EngineFault) → Writes (g.W.Sink.written c.args.out.now) new result
    (vital_text c.value.result (map row_of c.deref.result.now))
    → HasGiven (g.P.Source.left c.args.problem.now) (g.P.Source.left c.read_state.new.source) (λ text. WritesVital (ArePartRows c.args.parts)
    (g.P.Source.left c.args.problem.now) (g.P.Source.left c.read_state.new.source) (g.W.Sink.written c.args.out.now) new text result)
writes-vital g c new result writes = given c.in_ok-state.ensures (λ text problem.
    let solved = c.in_ok-solved.solved.state in
    let found = c.in_ok-solved.ensures in
    let rows = map row_of c.deref.result.now in
    record {
      state = c.in_ok-state.state;
      problem = problem;
      value = c.value.result;
      greatest = subst (λ (n : Network). IsGreatestValue n c.value.result) found.network
          (record { flows = solved.flows; greatest = found.greatest; value_is = sym c.value.ensures.value });
      rows = rows;
      are_rows = subst (λ (n : Network). ArePartRows c.args.parts n rows) found.network (are-rows g c);
      writes = writes;
    })

pub returns-in_err-rows : goal.returns-in_err-rows
returns-in_err-rows g c =
    let failed = err_from_is_err_and c.from_residual-in_err-rows.result c.from_residual-in_err-rows.ensures.1 in
    rw (failed.1, failed.2) (given c.in_ok-state.ensures (λ text problem. elim c.in_err-rows.ensures.refused [
      | inl memory ↦ rw memory (problem.0.mark, refl)
      | inr room ↦ rw room.0 (record {
        state = c.in_ok-state.state;
        problem = problem;
        lacks_room = subst (PartsLackRoom c.args.parts) c.in_ok-solved.ensures.network room.1;
        untouched = refl;
      })
    ]))

pub returns-in_err-write_vital : goal.returns-in_err-write_vital
returns-in_err-write_vital g c =
    let failed = err_from_is_err_and c.from_residual-in_err-write_vital.result c.from_residual-in_err-write_vital.ensures.1 in
    rw (failed.1, failed.2)
    (writes-vital g (goal.at.returns-in_err-write_vital g c).After-write_vital _ (Err Write) c.in_err-write_vital.ensures)

pub returns-in_err-flush : goal.returns-in_err-flush
returns-in_err-flush g c =
    let failed = err_from_is_err_and c.from_residual-in_err-flush.result c.from_residual-in_err-flush.ensures.1 in
    rw (failed.1, failed.2) (writes-vital g (goal.at.returns-in_err-flush g c).After-write_vital (g.W.Sink.written c.flush.new.out) (Err Write)
    (Writes-flushed {V = Status} _ (g.W.Sink.written c.write_vital.new.out) _ (Err Write) _ c.in_ok-write_vital.ensures c.in_err-flush.ensures))

pub returns : goal.returns
returns g c =
    writes-vital g (goal.at.returns g c).After-write_vital (g.W.Sink.written c.flush.new.out) (Ok Well)
    (Writes-flushed {E = EngineFault} _ (g.W.Sink.written c.write_vital.new.out) (g.W.Sink.written c.flush.new.out) (Ok Well) _
    c.in_ok-write_vital.ensures c.in_ok-flush.ensures)
