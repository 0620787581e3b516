-- No path is left, so the search has reached the outcome of solving.
use Rattle.std.proofs.Common.{◌≡◌, ◌∙◌, [], subst, sym}
use Rattle.dmf_path.specs.Pair.{steps_of}
use Rattle.dmf_path.specs.Path.{HasNoPath}
use Rattle.dmf_state.specs.Edit.{differences}
use Rattle.dmf_solver.specs.KeptNetwork.{KeptNetwork, IsNetworkOf}
use Rattle.dmf_solver.specs.Pairs.{reached_flows, IsAtEnd, HasSolved}
use Rattle.dmf_solver.specs.ResidualNetwork.{IsResidualOf}
use Rattle.dmf_solver.proofs.solving.AtOnce.{at_once, solved-at_once, end-at_once, listed-at_once}
use Rattle.dmf_solver.proofs.solving.SolvedEdit.{PlansSolve-listed, value-listed}
use Rattle.dmf_solver.proofs.residual_network.ResidualNetwork.plan_nothing.Goals.{After-value, After-new-moves}
use Rattle.dmf_solver.proofs.residual_network.ResidualNetwork.plan_nothing.Goals as goal

is : (c : After-value) → IsResidualOf c.args.state.now c.self.inside.search
is c = (subst (IsNetworkOf c.args.state.now) (sym c.self.view_is) c.requires.network).residual

none : (c : After-value) → HasNoPath (steps_of c.self.inside.search.pairs) c.self.inside.search.start c.self.inside.search.goal
none c =
    subst (λ (k : KeptNetwork). HasNoPath (steps_of k.residual.pairs) k.residual.start k.residual.goal) (sym c.self.view_is) c.requires.closed

pub wanted_side-requires : goal.wanted_side-requires
wanted_side-requires c =
    let s = c.args.state.now in
    subst (λ x. IsAtEnd s x c.value.result) (sym c.as_search-search.ensures)
    (end-at_once s c.self.inside.search c.value.result c.value.ensures.state (is c) c.value.ensures.value (none c))

-- Solving reaches its outcome at once,
solved : (c : After-value) → HasSolved c.args.state.now (at_once c.args.state.now c.self.inside.search c.value.result c.value.ensures.state (is c)
    c.value.ensures.value (none c))
solved c = solved-at_once c.args.state.now c.self.inside.search c.value.result c.value.ensures.state (is c) c.value.ensures.value (none c)

-- and no flow differs then.
listed : (c : After-value) → [] ≡ differences 1 c.args.state.now.flows (reached_flows c.args.state.now c.self.inside.search)
listed c = listed-at_once c.args.state.now c.self.inside.search c.value.result c.value.ensures.state (is c) c.value.ensures.value (none c)

-- The edit without moves is that of the search.
pub returns-clause-edit : goal.returns-clause-edit
returns-clause-edit c =
    let at = (goal.at.returns-clause-edit c).After-value in
    PlansSolve-listed c.args.state.now _ c.new-moves.result c.value.ensures.state (solved at) (c.new-moves.ensures.items ∙ listed at)

pub returns-clause-value : goal.returns-clause-value
returns-clause-value c =
    let at = (goal.at.returns-clause-value c).After-value in
    value-listed c.args.state.now _ c.new-moves.result c.value.ensures.state (solved at) (c.new-moves.ensures.items ∙ listed at) c.in_ok-side.side
    (rw c.as_search-search.ensures at c.in_ok-side.ensures.value)
