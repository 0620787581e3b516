use Rattle.std.proofs.Common.{ℕ, ◌≡◌, ◌∙◌}
use Rattle.dmf_path.specs.Search.{Searched, aimed}
use Rattle.dmf_state.specs.NetworkState.{NetworkState}
use Rattle.dmf_solver.specs.ResidualNetwork.{residual_search}
use Rattle.dmf_solver.proofs.solving.GreatestSearch.{IsAnswer, found-answers, enclosed-answers}
use Rattle.dmf_solver.proofs.solve.is_greatest.Goals as goal
use Rattle.dmf_solver.proofs.solve.is_greatest.Goals.{After-is_none}

pub aim-requires : goal.aim-requires
aim-requires c =
    let network = c.in_ok-search.ensures.state.network in
    rw (c.source.ensures.value, c.sink.ensures.value, c.in_ok-search.ensures.search)
    (record { start = network.source; goal = network.sink; apart = network.two_terminals })

-- Aiming the search at its own ends does not change it.
aimed-again : (s : NetworkState) (search new : Searched) (start goal : ℕ) → search ≡ residual_search s.network s.flows
    → start ≡ s.network.source → goal ≡ s.network.sink → new ≡ aimed search start goal → new ≡ residual_search s.network s.flows
aimed-again s search new start goal is from to aims = aims ∙ (λ i. aimed (is i) (from i) (to i))

-- what the augmentation tells
answers : (c : After-is_none) → IsAnswer c.args.state.now c.is_none.result
answers c =
    let s = c.args.state.now in
    let search = c.in_ok-search.ensures in
    let again = aimed-again s c.in_ok-search.search c.aim.new.self c.source.result c.sink.result search.search
    c.source.ensures.value c.sink.ensures.value c.aim.ensures in
    found-answers s _ c.augment.result c.aim.new.self c.augment.new.self c.is_none.result search.state again c.augment.ensures.found c.is_none.ensures

pub returns-clause-greatest : goal.returns-clause-greatest
returns-clause-greatest c = (answers (goal.at.returns-clause-greatest c).After-is_none).yes

pub returns-clause-surpassed : goal.returns-clause-surpassed
returns-clause-surpassed c = (answers (goal.at.returns-clause-surpassed c).After-is_none).no

pub returns-then-branch-clause-greatest : goal.returns-then-branch-clause-greatest
returns-then-branch-clause-greatest c =
    (enclosed-answers c.args.state.now c.is_enclosed.ensures.state (c.in_ok-is_enclosed.ensures.no_path c.if-branch.true)).yes

pub returns-then-branch-clause-surpassed : goal.returns-then-branch-clause-surpassed
returns-then-branch-clause-surpassed c =
    (enclosed-answers c.args.state.now c.is_enclosed.ensures.state (c.in_ok-is_enclosed.ensures.no_path c.if-branch.true)).no
