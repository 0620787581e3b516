use Rattle.std.proofs.Common.{ap, pos, ◌∙◌}
use Rattle.dmf_solver.specs.Pairs.{reached_flows}
use Rattle.dmf_solver.proofs.cuts.SmallestSide.{IsSmallestSide-by_search}
use Rattle.dmf_solver.proofs.side.wanted_side.Goals as goal

pub returns-then-want_side-clause-side : goal.returns-then-want_side-clause-side
returns-then-want_side-clause-side c =
    let s = c.args.state.now in
    let found = c.args.search.now in
    let is = c.requires.1 in
    rw c.if-want_side.true
    (IsSmallestSide-by_search s.network (reached_flows s found) found c.args.value c.in_ok-side.side is.state.network is.state.flow
    is.solves.no_path is.search_is is.value_is c.in_ok-side.ensures)

pub returns-then-want_side-clause-value : goal.returns-then-want_side-clause-value
returns-then-want_side-clause-value c = ap pos c.in_ok-side.ensures.capacity_is ∙ c.requires.1.value_is
