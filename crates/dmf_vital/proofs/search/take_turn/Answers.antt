use Rattle.dmf_vital.proofs.Keeping.{kept-in_turn}
use Rattle.dmf_vital.proofs.search.take_turn.Goals as goal

pub returns-in_err-look_over-clause-kept : goal.returns-in_err-look_over-clause-kept
returns-in_err-look_over-clause-kept c =
    kept-in_turn c.args.tree.now.nodes.items c.loop.tree.nodes.items c.look_over.new.tree.nodes.items c.loop.invariant.kept c.look_over.ensures.kept

pub returns-then-branch-clause-kept : goal.returns-then-branch-clause-kept
returns-then-branch-clause-kept c =
    kept-in_turn c.args.tree.now.nodes.items c.loop.tree.nodes.items c.look_over.new.tree.nodes.items c.loop.invariant.kept c.look_over.ensures.kept

pub returns-then-branch-clause-bridge : goal.returns-then-branch-clause-bridge
returns-then-branch-clause-bridge c = λ _. c.in_ok-look_over.ensures.bridge c.if-branch.true

pub loop-preserved : goal.loop-preserved
loop-preserved c = record {
  grown = c.look_over.ensures.grown;
  kept = kept-in_turn c.args.tree.now.nodes.items c.loop.tree.nodes.items c.look_over.new.tree.nodes.items c.loop.invariant.kept c.look_over.ensures.kept;
}
