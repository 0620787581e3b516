use Rattle.std.proofs.Common.{◌≡◌, ◌∙◌, ap, nat_abs, refl}
use Rattle.dmf_text.proofs.WritingLemmas.{first-failed, first-put}
use Rattle.dmf_state.specs.Flow.{flow_value}
use Rattle.dmf_solving.specs.Solved.{side_text, solve_value_line}
use Rattle.dmf_solving.proofs.solved.write_brief.Given.{Over}
use Rattle.dmf_solving.proofs.solved.write_brief.Goals as goal
use Rattle.dmf_solving.proofs.solved.write_brief.Goals.{After-write_line}

-- the line has the value of the state's flow
line-is : (g : Over) (c : After-write_line g)
    → c.solved_value_line.result ≡ solve_value_line (nat_abs (flow_value c.args.state.now.network c.args.state.now.flows))
line-is g c = c.solved_value_line.ensures ∙ ap solve_value_line (ap nat_abs c.value.ensures.value)

pub returns-in_err-write_line : goal.returns-in_err-write_line
returns-in_err-write_line g c =
    let line = line-is g (goal.at.returns-in_err-write_line g c).After-write_line in
    first-failed _ _ _ _ _ _ (side_text c.args.side.now) c.from_residual.ensures.1 refl (rw line at c.in_err-write_line.ensures)

pub returns : goal.returns
returns g c =
    let line = line-is g (goal.at.returns g c).After-write_line in
    first-put _ (g.W.Sink.written c.write_line.new.out) _ _ _ _ (side_text c.args.side.now) refl (rw line at c.in_ok-write_line.ensures)
    c.write_side.ensures
