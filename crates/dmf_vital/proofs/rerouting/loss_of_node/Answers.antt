use Rattle.dmf_vital.proofs.Lost.{are-exits_of_node, if-ok, lost-node}
use Rattle.dmf_vital.proofs.rerouting.loss_of_node.Goals as goal

pub left_on-requires-clause-exits : goal.left_on-requires-clause-exits
left_on-requires-clause-exits c = are-exits_of_node c.args.state.now.network c.args.ranks c.args.v c.requires.inner

pub returns-clause-loss : goal.returns-clause-loss
returns-clause-loss c =
    if-ok c.left_on.result _ _ c.left_on.ensures.left
    (λ left. lost-node c.args.state.now.network c.args.ranks c.args.v left c.requires.ready.network c.requires.inner)
