use Rattle.std.proofs.Common.{ap, ◌+◌}
use Rattle.dmf_path.specs.Search.{Searched}
use Rattle.dmf_solver.proofs.cuts.Gates.{closed-gated, gated-long, changes-insert}
use Rattle.dmf_solver.proofs.closed_side.SidedSearch.insert.Goals as goal

pub with_gate-side-requires : goal.with_gate-side-requires
with_gate-side-requires c =
    gated-long c.self.inside.search c.in_ok-search.search c.self.inside.side c.self.invariant
    (ap (λ (s : Searched). s.nodes) c.in_ok-search.ensures.search)

pub invariant_of-result : goal.invariant_of-result
invariant_of-result c =
    closed-gated c.self.inside.search c.in_ok-search.search c.self.inside.side c.with_gate-side.result (c.args.k + 1) c.self.invariant
    (changes-insert c.self.inside.search c.in_ok-search.search c.args.k c.args.pair (rw (← c.self.view_is) at c.requires.index)
    c.in_ok-search.ensures.search)
    c.with_gate-side.ensures
