use Rattle.std.proofs.Common.{drop}
use Rattle.dmf_solver.proofs.kept.Followed.{AreShutUpTo, shut_along}
use Rattle.dmf_solver.proofs.following.put_capacities.Given as goal

abbrev pub invariant-loop-shutting : goal.invariant-loop-shutting
invariant-loop-shutting l = AreShutUpTo l.direction l.state.network (shut_along l.direction l.shutting-items l.state.network)
    (drop l.shutting-index l.shutting-items) l.fn.search l.search
