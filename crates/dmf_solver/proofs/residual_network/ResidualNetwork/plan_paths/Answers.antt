use Rattle.std.proofs.Common.{◌≡◌, ◌∙◌, length, ap, sym, subst}
use Rattle.std.proofs.lemmas.List.{with_items_is}
use Rattle.dmf_path.specs.ClosedSide.{IsClosedSide}
use Rattle.dmf_path.specs.Pair.{steps_of}
use Rattle.dmf_path.specs.Search.{Searched}
use Rattle.dmf_solver.proofs.solving.SolvedEdit.{PlansSolve-listed, value-listed, residual-listed}
use Rattle.dmf_solver.proofs.solving.Solving.{fault-only}
use Rattle.dmf_solver.proofs.residual_network.ResidualNetwork.plan_paths.Goals as goal

pub returns-clause-edit : goal.returns-clause-edit
returns-clause-edit g c =
    PlansSolve-listed c.args.state.now c.in_ok-solved.solved c.in_ok-moves.moves c.in_ok-solved.ensures.state c.in_ok-solved.ensures.solved
    c.in_ok-moves.ensures

pub returns-clause-value : goal.returns-clause-value
returns-clause-value g c =
    value-listed c.args.state.now c.in_ok-solved.solved c.in_ok-moves.moves c.in_ok-solved.ensures.state c.in_ok-solved.ensures.solved c.in_ok-moves.ensures
    c.in_ok-side.side c.in_ok-side.ensures.value

pub carry_flows-carrying-requires-clause-fit : goal.carry_flows-carrying-requires-clause-fit
carry_flows-carrying-requires-clause-fit g c =
    rw c.deref.ensures.value
    (PlansSolve-listed c.args.state.now c.in_ok-solved.solved c.in_ok-moves.moves c.in_ok-solved.ensures.state c.in_ok-solved.ensures.solved
    c.in_ok-moves.ensures).plan.fits.moves

pub returns-clause-kept : goal.returns-clause-kept
returns-clause-kept g c = record {
  residual = rw c.at_end.ensures (residual-listed c.args.state.now c.in_ok-solved.solved c.in_ok-moves.moves c.in_ok-solved.ensures.state
      c.in_ok-solved.ensures.solved c.in_ok-moves.ensures);
  carrying = rw c.deref.ensures.value at c.carry_flows-carrying.ensures;
}

-- The marks are those that the solve left.
pub at_end-requires-clause-side : goal.at_end-requires-clause-side
at_end-requires-clause-side g c = λ long.
    let solved = c.in_ok-solved.ensures in
    let s = c.in_ok-solved.solved.search in
    let same = with_items_is c.into_ways_out-search.result.1 c.solve.new.marks (c.solve.auto.marks ∙ c.deref_mut.ensures.len) in
    let nodes : c.nodes-2.result ≡ s.nodes = c.nodes-2.ensures.value ∙ sym (ap (λ (x : Searched). x.nodes) solved.solved.search_is) in
    subst (IsClosedSide (steps_of s.pairs) s.start s.goal) (sym same)
    (solved.side (sym c.solve.auto.marks ∙ sym (ap length same) ∙ long ∙ nodes))

pub returns-in_err-touched-clause-refused : goal.returns-in_err-touched-clause-refused
returns-in_err-touched-clause-refused g c = fault-only c.from_residual.result _ c.from_residual.ensures.1

pub returns-in_err-side-clause-refused : goal.returns-in_err-side-clause-refused
returns-in_err-side-clause-refused g c = fault-only c.from_residual-in_err-side.result _ c.from_residual-in_err-side.ensures.1

pub returns-in_err-moves-clause-refused : goal.returns-in_err-moves-clause-refused
returns-in_err-moves-clause-refused g c = fault-only c.from_residual-in_err-moves.result _ c.from_residual-in_err-moves.ensures.1
