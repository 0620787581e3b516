use Rattle.std.proofs.Common.{◌≡◌, ◌++◌, true, ap, sym}
use Rattle.std.specs.Prelude.{nat_abs}
use Rattle.dmf_session.specs.declared.command.Command.TheVariants.{Solve}
use Rattle.dmf_text.proofs.WritingLemmas.{first-failed, first-put}
use Rattle.dmf_solving.specs.Solved.{side_text}
use Rattle.dmf_runs.specs.Run.{solve_text, value_text}
use Rattle.dmf_runs.proofs.reply.write_brief_reply.Given.{Over}
use Rattle.dmf_runs.proofs.reply.write_brief_reply.Goals as goal
use Rattle.dmf_runs.proofs.reply.write_brief_reply.Goals.{After-write_line}

-- the state's value is the value of its flow
first : (g : Over) (c : After-write_line g) → solve_text true c.args.state.now c.args.side.now ≡ value_text Solve c.value.result ++ side_text c.args.side.now
first g c = ap (λ value. value_text Solve value ++ side_text c.args.side.now) (sym (ap nat_abs c.value.ensures.value))

pub returns-in_err-write_line : goal.returns-in_err-write_line
returns-in_err-write_line g c =
    first-failed _ _ _ _ _ _ _ c.from_residual.ensures.1 (first g (goal.at.returns-in_err-write_line g c).After-write_line)
    (rw c.value_line.ensures at c.in_err-write_line.ensures)

pub returns : goal.returns
returns g c =
    first-put _ (g.W.Sink.written c.write_line.new.out) _ _ _ _ _ (first g (goal.at.returns g c).After-write_line)
    (rw c.value_line.ensures at c.in_ok-write_line.ensures) c.write_side.ensures
