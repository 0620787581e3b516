use Rattle.std.proofs.Common.{ℕ, List, ◌≡◌, ◌+◌, ap, sym, ◌∙◌, subst, arith}
use Rattle.std.proofs.lemmas.List.{with_items_is}
use Rattle.std.specs.Vec.{with_items}
use Rattle.std.proofs.lemmas.Slice.Zip.{AllZip-long}
use Rattle.dmf_solver.specs.Greatest.{IsGreatest}
use Rattle.dmf_vital.specs.Exits.{exit_flow}
use Rattle.dmf_vital.specs.Ranks.{AreRanks}
use Rattle.dmf_vital.specs.Shifted.{IsMoved}
use Rattle.dmf_vital.specs.Tree.{IsCrossing, IsGrown, HasSearched}
use Rattle.dmf_vital.proofs.Stuck.{holds-exits}
use Rattle.dmf_vital.proofs.rerouting.move_off.Goals.{After-push}
use Rattle.dmf_vital.proofs.rerouting.move_off.Goals as goal

pub returns-then-hop-eq0-clause-moved : goal.returns-then-hop-eq0-clause-moved
returns-then-hop-eq0-clause-moved c =
    let n = c.args.state.now.network in
    let e = c.args.exits in
    let nodes = c.search.new.tree.nodes.items in
    let found = c.search.new.tree.found.items in
    let flows = c.deref.ensures.value in
    let grown = subst (λ f. IsGrown n f e nodes found) flows c.in_ok-hop.ensures.grown in
    let ended = subst (λ f. HasSearched n f e nodes c.in_ok-hop.hop) flows c.in_ok-hop.ensures.ended in
    let stuck = ended.none c.if-hop-eq0.true in
    record {
      moves = omega arith;
      held = λ _. holds-exits n c.args.rerouting.now.flows.items e nodes found c.requires.ready.network c.requires.exits c.requires.ranks grown ended.entered stuck.0 stuck.1;
    }

pub push-requires-clause-crossing : goal.push-requires-clause-crossing
push-requires-clause-crossing c =
    let n = c.args.state.now.network in
    let e = c.args.exits in
    let nodes = c.search.new.tree.nodes.items in
    let crossing = c.in_ok-hop.ensures.ended.some c.if-hop-eq0.false in
    subst (λ f. IsCrossing n f e nodes c.in_ok-hop.hop) (c.deref.ensures.value ∙ sym c.deref_mut.ensures.value) crossing

-- the flows, as the list that was lent has them
lent : (c : After-push) → (with_items c.args.rerouting.now.flows c.push.new.flows).items ≡ c.push.new.flows
lent c =
    let n = c.args.state.now.network in
    let flows = c.args.rerouting.now.flows in
    with_items_is flows c.push.new.flows (omega (
      arith,
      AllZip-long _ n.arcs c.push.new.flows c.push.ensures.greatest.flow.within,
      AllZip-long _ n.arcs flows.items c.requires.ready.greatest.flow.within,
      flows.ok.0,
    ))

pub returns-clause-moved : goal.returns-clause-moved
returns-clause-moved c =
    let n = c.args.state.now.network in
    let e = c.args.exits in
    let before : List ℕ = c.args.rerouting.now.flows.items in
    let at = (goal.at.returns-clause-moved c).After-push in
    let moves : exit_flow n e c.push.new.flows + c.push.result ≡ exit_flow n e before = c.push.ensures.moves ∙ ap (exit_flow n e) c.deref_mut.ensures.value in
    let some = c.push.ensures.some in
    let moved : IsMoved n e c.push.result before c.push.new.flows = record { moves = moves; held = λ none. absurd (omega (arith, none, some)) } in
    subst (IsMoved n e c.push.result before) (sym (lent at)) moved

pub returns-clause-ranks : goal.returns-clause-ranks
returns-clause-ranks c =
    let at = (goal.at.returns-clause-ranks c).After-push in
    subst (λ f. AreRanks c.args.state.now.network f c.args.exits.ranks.now) (sym (lent at)) c.push.ensures.ranks

pub push-requires-clause-ranks : goal.push-requires-clause-ranks
push-requires-clause-ranks c = subst (λ f. AreRanks c.args.state.now.network f c.args.exits.ranks.now) (sym c.deref_mut.ensures.value) c.requires.ranks

pub returns-clause-ready : goal.returns-clause-ready
returns-clause-ready c =
    let n = c.args.state.now.network in
    let at = (goal.at.returns-clause-ready c).After-push in
    record {
      network = c.requires.ready.network;
      own = c.requires.ready.own;
      greatest = subst (IsGreatest n) (sym (lent at)) c.push.ensures.greatest;
      along = c.requires.ready.along;
      against = c.requires.ready.against;
      tree = c.search.ensures.tree;
    }
