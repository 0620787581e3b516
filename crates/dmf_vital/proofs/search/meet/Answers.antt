use Rattle.std.proofs.Common.{◌≡◌, sym, subst}
use Rattle.dmf_vital.specs.declared.hop.Hop.{Hop}
use Rattle.dmf_vital.specs.Hop.{turned}
use Rattle.dmf_vital.specs.Tree.{IsCrossing}
use Rattle.dmf_vital.proofs.Keeping.{kept-in_turn}
use Rattle.dmf_vital.proofs.Crossing.{bridge-crossing}
use Rattle.dmf_vital.proofs.search.meet.Goals as goal

pub returns-in_err-hop-clause-kept : goal.returns-in_err-hop-clause-kept
returns-in_err-hop-clause-kept c =
    kept-in_turn c.args.tree.now.nodes.items c.loop.tree.nodes.items c.take_turn.new.tree.nodes.items c.loop.invariant.kept c.take_turn.ensures.kept

pub returns-then-hop-ne0-clause-kept : goal.returns-then-hop-ne0-clause-kept
returns-then-hop-ne0-clause-kept c =
    kept-in_turn c.args.tree.now.nodes.items c.loop.tree.nodes.items c.take_turn.new.tree.nodes.items c.loop.invariant.kept c.take_turn.ensures.kept

-- Both ends have met.
pub returns-then-hop-ne0-clause-crossing : goal.returns-then-hop-ne0-clause-crossing
returns-then-hop-ne0-clause-crossing c = λ _.
    let s = c.args.steps.now in
    let nodes = c.take_turn.new.tree.nodes.items in
    let hop : Hop = c.in_ok-hop.hop in
    let is : c.ahead.result ≡ record { arc = hop.arc; against = turned c.loop.back hop.against } = c.ahead.ensures in
    subst (IsCrossing s.state.now.network s.flows.now s.exits nodes) (sym is)
    (bridge-crossing s.state.now.network s.flows.now s.exits nodes c.loop.back hop (c.in_ok-hop.ensures.bridge c.if-hop-ne0.true))

pub returns-then-is_done-clause-kept : goal.returns-then-is_done-clause-kept
returns-then-is_done-clause-kept c =
    kept-in_turn c.args.tree.now.nodes.items c.loop.tree.nodes.items c.take_turn.new.tree.nodes.items c.loop.invariant.kept c.take_turn.ensures.kept

pub returns-then-is_done-clause-crossing : goal.returns-then-is_done-clause-crossing
returns-then-is_done-clause-crossing c = λ some. absurd (some c.if-hop-ne0.false)

pub loop-preserved : goal.loop-preserved
loop-preserved c = record {
  grown = c.take_turn.ensures.grown;
  kept = kept-in_turn c.args.tree.now.nodes.items c.loop.tree.nodes.items c.take_turn.new.tree.nodes.items c.loop.invariant.kept c.take_turn.ensures.kept;
}
