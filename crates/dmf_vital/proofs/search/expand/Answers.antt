use Rattle.std.proofs.Common.{ℕ, ◌<◌, ◌-◌, false, ap, subst, arith, length}
use Rattle.std.proofs.lemmas.List.{get_or_read}
use Rattle.dmf_state.proofs.ChangedArc.{has_arc-within}
use Rattle.dmf_vital.specs.declared.hop.Hop.{Hop}
use Rattle.dmf_vital.specs.declared.tree.Reached.{Reached}
use Rattle.dmf_vital.specs.Tree.{IsStepped, LeadsToReached, not_reached}
use Rattle.dmf_vital.proofs.Keeping.{kept-in_turn}
use Rattle.dmf_vital.proofs.Expanding.{expanding-none, expanding-smaller, expanding-next}
use Rattle.dmf_vital.proofs.search.expand.Goals as goal

pub loop-arc-init : goal.loop-arc-init
loop-arc-init c =
    let s = c.args.steps.now in
    let n = s.state.now.network in
    let k : ℕ = c.args.v - 1 in
    let nodes = c.args.tree.now.nodes.items in
    let last = c.args.chains.now.last.items in
    let inside : k < length nodes = omega (arith, c.requires.node.from_one, c.requires.node.to_last, c.requires.grown.are.one_each) in
    let inside_last : k < length last = omega (arith, c.requires.node.from_one, c.requires.node.to_last, c.requires.chains.one_a_node) in
    expanding-none n s.flows.now s.exits c.args.back c.args.against last c.args.chains.now.before.items c.requires.chains c.args.v c.index.result.now.width
    c.requires.node nodes c.requires.reached c.requires.end c.args.tree.now.found.items c.index-arc.result.now c.requires.grown
    (ap (λ (r : Reached). r.width) (get_or_read nodes k c.index.result.now inside c.index.ensures not_reached))
    (get_or_read last k c.index-arc.result.now inside_last c.index-arc.ensures 0)

pub loop-arc-smaller : goal.loop-arc-smaller
loop-arc-smaller c =
    let s = c.args.steps.now in
    let n = s.state.now.network in
    let before = c.args.chains.now.before.items in
    let arc : ℕ = c.loop-arc.arc in
    let next : ℕ = c.index-arc-in-loop-arc.result.now in
    let within = c.loop-arc.invariant.within in
    let inside : arc - 1 < length before = omega (arith, within, c.loop-arc-test.true, c.requires.chains.one_an_arc) in
    expanding-smaller n s.flows.now s.exits c.args.back c.args.against c.args.chains.now.last.items before c.requires.chains c.args.v c.index.result.now.width
    c.requires.node c.args.tree.now.nodes.items c.requires.reached c.requires.end arc next c.loop-arc-test.true within
    (get_or_read before (arc - 1) next inside c.index-arc-in-loop-arc.ensures 0)

pub loop-arc-preserved : goal.loop-arc-preserved
loop-arc-preserved c =
    let s = c.args.steps.now in
    let n = s.state.now.network in
    let before = c.args.chains.now.before.items in
    let arc : ℕ = c.loop-arc.arc in
    let next : ℕ = c.index-arc-in-loop-arc.result.now in
    let expanding = c.loop-arc.invariant in
    let inside : arc - 1 < length before = omega (arith, expanding.within, c.loop-arc-test.true, c.requires.chains.one_an_arc) in
    let is = get_or_read before (arc - 1) next inside c.index-arc-in-loop-arc.ensures 0 in
    let after = c.step_over.new.tree.nodes.items in
    let own = expanding.own (omega (arith, c.loop-arc-test.true)) in
    let stepped : IsStepped n s.flows.now s.exits after c.args.back (record { arc = arc; against = c.args.against }) false =
    subst (IsStepped n s.flows.now s.exits after c.args.back (record { arc = arc; against = c.args.against })) c.if-branch.false c.in_ok-step_over.ensures.stepped in
    expanding-next n s.flows.now s.exits c.args.back c.args.against c.args.chains.now.last.items before c.requires.chains c.args.v c.index.result.now.width
    c.requires.node c.args.tree.now.nodes.items c.requires.reached c.requires.end c.loop-arc.tree.nodes.items after c.loop-arc.tree.found.items
    c.step_over.new.tree.found.items arc next c.loop-arc-test.true is expanding c.step_over.ensures.grown c.step_over.ensures.kept
    (subst (λ u. LeadsToReached n s.flows.now s.exits after c.args.back c.args.against u arc) own stepped)

pub returns-clause-looked : goal.returns-clause-looked
returns-clause-looked c = record {
  none = λ _ i there other from room.
      let at = has_arc-within c.args.steps.now.state.now.network i there in
      c.loop-arc.invariant.looked i (omega (arith, at.0, c.loop-arc-test.false)) there other from room;
  some = λ some. absurd (omega (arith, some));
}

pub returns-in_err-step_over-clause-kept : goal.returns-in_err-step_over-clause-kept
returns-in_err-step_over-clause-kept c =
    kept-in_turn c.args.tree.now.nodes.items c.loop-arc.tree.nodes.items c.step_over.new.tree.nodes.items c.loop-arc.invariant.kept c.step_over.ensures.kept

pub returns-then-branch-clause-kept : goal.returns-then-branch-clause-kept
returns-then-branch-clause-kept c =
    kept-in_turn c.args.tree.now.nodes.items c.loop-arc.tree.nodes.items c.step_over.new.tree.nodes.items c.loop-arc.invariant.kept c.step_over.ensures.kept

-- The step is a bridge.
pub returns-then-branch-clause-looked : goal.returns-then-branch-clause-looked
returns-then-branch-clause-looked c =
    let s = c.args.steps.now in
    let hop : Hop = record { arc = c.loop-arc.arc; against = c.args.against } in
    record {
      none = λ none. absurd (c.loop-arc-test.true none);
      some = λ _. subst (IsStepped s.state.now.network s.flows.now s.exits c.step_over.new.tree.nodes.items c.args.back hop) c.if-branch.true
          c.in_ok-step_over.ensures.stepped;
    }
