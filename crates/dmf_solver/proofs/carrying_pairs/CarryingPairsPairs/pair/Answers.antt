use Rattle.dmf_solver.proofs.pairs.ArcPairs.{pair-at, pair-past}
use Rattle.dmf_solver.proofs.pairs.CarryingPairs.{by_carrying_pair}
use Rattle.dmf_solver.proofs.carrying_pairs.CarryingPairsPairs.pair.Goals as goal

pub returns-in-Some : goal.returns-in-Some
returns-in-Some c = rw c.carrying_pair.ensures (pair-at by_carrying_pair c.args.self.now.state.now c.arc_at.ensures.state _ c.args.k _ c.in-Some.ensures.at)

pub returns-in-None : goal.returns-in-None
returns-in-None c =
    rw c.return_pair.ensures (pair-past by_carrying_pair c.args.self.now.state.now c.arc_at.ensures.state _ c.args.k c.requires c.in-None.ensures.at)
