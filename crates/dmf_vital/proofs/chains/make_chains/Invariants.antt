use Rattle.dmf_vital.proofs.Chained.{AreChainsSoFar}
use Rattle.dmf_vital.proofs.chains.make_chains.Given as goal

abbrev pub invariant-loop-k : goal.invariant-loop-k
invariant-loop-k l = AreChainsSoFar l.against l.state.network.nodes l.state.network.arcs l.k l.last.items l.before.items
