use Rattle.dmf_vital.specs.Tree.{back_of, place_of}
use Rattle.dmf_vital.proofs.Pushed.{IsPushedFrom}
use Rattle.dmf_vital.proofs.push.climb.Given as goal

-- The amount is sent along the steps from the present node on.
abbrev pub invariant-loop-u : goal.invariant-loop-u
invariant-loop-u l = IsPushedFrom l.state.network l.exits (back_of l.tree.nodes.items l.v) l.u l.v l.amount l.tree.nodes.items l.fn.flows l.flows

abbrev pub decreases-loop-u : goal.decreases-loop-u
decreases-loop-u l = place_of l.tree.nodes.items l.u
