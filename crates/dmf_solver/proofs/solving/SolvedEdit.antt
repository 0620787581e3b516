-- The edit of a solve: its moves name the arcs whose flow differs in what the search has reached.
use Rattle.std.proofs.Common.{◌≡◌, ◌∙◌, Option, IfSome, Vec, Global, ap, pos, refl, subst, sym}
use Rattle.dmf_solver.specs.declared.solve.SolvedSearch.{SolvedSearch}
use Rattle.dmf_state.specs.declared.edit.Move.{Move}
use Rattle.dmf_state.specs.declared.edit.Edit.TheVariants as edit
use Rattle.dmf_state.specs.Cut.{HasCutOf}
use Rattle.dmf_state.specs.Edit.{applied, differences}
use Rattle.dmf_state.specs.Flow.{flow_value}
use Rattle.dmf_state.specs.Side.{CutSide}
use Rattle.dmf_solver.specs.Greatest.{IsGreatest}
use Rattle.dmf_state.specs.NetworkState.{NetworkState, IsState, with_flows}
use Rattle.dmf_solver.specs.Pairs.{HasSolved, reached_flows}
use Rattle.dmf_solver.specs.Planning.{PlansSolve}
use Rattle.dmf_solver.specs.ResidualNetwork.{IsResidualOf, residual_search}
use Rattle.dmf_solver.specs.Solve.{Solves}
use Rattle.dmf_solver.proofs.cuts.GreatestFlow.{greatest-from_no_path, cut-from_no_path}
use Rattle.dmf_state.proofs.Moving.{AreMovesBetween, moves-between, flows-long}

module _ (s : NetworkState) (solved : SolvedSearch) (moves : Vec Move Global) (state : IsState s) (is : HasSolved s solved)
    (listed : moves.items ≡ differences 1 s.flows (reached_flows s solved.search)) where
  -- The moves lead from the state's flow to the flow that the search has reached.
  between : AreMovesBetween moves.items s.flows (reached_flows s solved.search)
  between = moves-between moves.items s.flows (reached_flows s solved.search) (flows-long s (reached_flows s solved.search) state is.state) listed

  -- So the edit of these moves solves,
  pub PlansSolve-listed : PlansSolve s (edit.Solve moves)
  PlansSolve-listed =
      let n = s.network in
      let makes = sym between.makes in
      record {
        plan = record {
          kind = tt;
          fits = record { arc = tt; moves = between.fit; applied = subst (λ xs. IsState (with_flows s xs)) makes is.state };
          becomes = (refl, subst (Solves n s.flows) makes is.solves);
          moves = between.differ;
        };
        greatest = subst (IsGreatest n) makes (greatest-from_no_path n _ is.state.network is.state.flow is.solves.no_path);
        cut = subst (λ xs. HasCutOf n (flow_value n xs)) makes (cut-from_no_path n _ is.state.network is.state.flow is.solves.no_path);
      }

  -- it makes the flow that the search has reached,
  pub flows-listed : (applied (edit.Solve moves) s).flows ≡ reached_flows s solved.search
  flows-listed = between.makes

  -- the side has the value of that flow,
  pub value-listed : (side : Option CutSide) → IfSome side (λ side. pos side.capacity ≡ flow_value s.network (reached_flows s solved.search))
      → IfSome side (λ side. pos side.capacity ≡ flow_value s.network (applied (edit.Solve moves) s).flows)
  value-listed side is = subst (λ flows. IfSome side (λ side. pos side.capacity ≡ flow_value s.network flows)) (sym flows-listed) is

  -- and the search has the links of the residual network.
  pub residual-listed : IsResidualOf (applied (edit.Solve moves) s) solved.search
  residual-listed = is.search_is ∙ ap (residual_search s.network) (sym flows-listed)
