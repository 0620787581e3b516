use Rattle.std.proofs.Common.{ℕ, ◌≡◌, ◌+◌, ◌-◌, inl, refl, subst, arith}
use Rattle.dmf_vital.specs.declared.worst.Limits.{Limits}
use Rattle.dmf_vital.specs.Entering.{AreWorstUpTo}
use Rattle.dmf_vital.specs.Worst.{IsNodeLoss}
use Rattle.dmf_vital.proofs.Entered.{up_to-single, worst-full, worst-large}
use Rattle.dmf_vital.proofs.worst.worst_nodes_watched.Goals as goal

abbrev limits : ℕ → Limits
limits most = record { most = most; least = 0 }

pub consider_node-requires-clause-worst : goal.consider_node-requires-clause-worst
consider_node-requires-clause-worst g c =
    let back : c.loop-k.k ≡ c.loop-k.k + 1 - 1 = omega arith in
    subst (λ (m : ℕ). AreWorstUpTo (IsNodeLoss c.args.state.now.network) m 0 (limits c.args.most) c.loop-k.worst.items) back c.loop-k.invariant.worst

pub returns : goal.returns
returns g c =
    let n = c.args.state.now.network in
    let large = worst-large (IsNodeLoss n) c.loop-k.k 0 (limits c.args.most) c.loop-k.worst.items (λ w is. up_to-single c.loop-k.k w is.0
    (omega (arith, is.1.0.node.to_last, c.loop-k-test.false, c.nodes-k-end.ensures.value))) c.loop-k.invariant.worst in
    worst-full (IsNodeLoss n) (limits c.args.most) c.loop-k.worst.items large (inl refl)
