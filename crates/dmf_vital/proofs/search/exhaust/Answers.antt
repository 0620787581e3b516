use Rattle.std.proofs.Common.{◌≡◌, ◌<◌, length, ap, sym, ◌∙◌, subst, arith}
use Rattle.dmf_vital.specs.declared.hop.Hop.{Hop}
use Rattle.dmf_vital.specs.Hop.{turned}
use Rattle.dmf_vital.specs.Tree.{IsCrossing}
use Rattle.dmf_vital.proofs.Keeping.{entered-kept}
use Rattle.dmf_vital.proofs.Expanding.{expanded-all}
use Rattle.dmf_vital.proofs.Crossing.{bridge-crossing}
use Rattle.dmf_vital.proofs.search.exhaust.Goals as goal

-- This end has reached all that it can.
pub returns-then-next-len-clause-ended : goal.returns-then-next-len-clause-ended
returns-then-next-len-clause-ended c =
    let s = c.args.steps.now in
    let is = c.loop-next.invariant in
    let none : c.no_hop.result.arc ≡ 0 = ap (λ (h : Hop). h.arc) c.no_hop.ensures in
    record {
      entered = is.entered;
      some = λ some. absurd (some none);
      none = λ _. (
        c.args.back,
        expanded-all s.state.now.network s.flows.now s.exits c.args.back c.loop-next.next c.loop-next.tree.nodes.items c.loop-next.tree.found.items
            is.grown is.expanded (omega (arith, c.len.ensures, c.if-next-len.true, c.loop-next.tree.found.ok.0)),
      );
    }

-- Both ends have met.
pub returns-then-hop-ne0-clause-ended : goal.returns-then-hop-ne0-clause-ended
returns-then-hop-ne0-clause-ended c =
    let s = c.args.steps.now in
    let nodes = c.look_at.new.tree.nodes.items in
    let hop : Hop = c.in_ok-hop.hop in
    let back = c.args.back in
    let crossing = bridge-crossing s.state.now.network s.flows.now s.exits nodes back hop (c.in_ok-hop.ensures.some c.if-hop-ne0.true) in
    let is : c.ahead.result ≡ record { arc = hop.arc; against = turned back hop.against } = c.ahead.ensures in
    record {
      entered = λ i. entered-kept s.state.now.network s.flows.now s.exits c.loop-next.tree.nodes.items nodes i c.look_at.ensures.kept
          (c.loop-next.invariant.entered i);
      some = λ _. subst (IsCrossing s.state.now.network s.flows.now s.exits nodes) (sym is) crossing;
      none = λ none. absurd (c.if-hop-ne0.true (sym (ap (λ (h : Hop). h.arc) is) ∙ none));
    }

-- One more node is expanded.
pub loop-next-preserved : goal.loop-next-preserved
loop-next-preserved c =
    let s = c.args.steps.now in
    let h : c.loop-next.next < length c.loop-next.tree.found.items = omega (arith, c.len.ensures, c.if-next-len.false, c.loop-next.tree.found.ok.0) in
    record {
      grown = c.look_at.ensures.grown;
      entered = λ i. entered-kept s.state.now.network s.flows.now s.exits c.loop-next.tree.nodes.items c.look_at.new.tree.nodes.items i
          c.look_at.ensures.kept (c.loop-next.invariant.entered i);
      expanded = c.in_ok-hop.ensures.none c.if-hop-ne0.false;
      within = omega (arith, h, c.look_at.ensures.longer);
    }
