use Rattle.std.proofs.Common.{ℕ, ◌≡◌, ◌≢◌, ◌<◌, ◌-◌, false, true, length, ap, sym, ◌∙◌, subst, arith}
use Rattle.std.proofs.lemmas.Bool.{both_ways, true_from_ne_false}
use Rattle.std.proofs.lemmas.List.{get_or_read}
use Rattle.std.proofs.lemmas.Slice.Zip.{AllZip-long}
use Rattle.dmf_node.specs.Node.{IsNode}
use Rattle.dmf_state.specs.declared.arc.Arc.{Arc}
use Rattle.dmf_state.specs.Arc.{no_arc}
use Rattle.dmf_state.specs.Flow.{flow_on}
use Rattle.dmf_state.specs.Network.{arc_number}
use Rattle.dmf_state.proofs.ChangedArc.{has_arc-within}
use Rattle.dmf_vital.specs.declared.tree.Reached.{Reached}
use Rattle.dmf_vital.specs.Exits.{is_exit, is_exit_arc}
use Rattle.dmf_vital.specs.Ranks.{is_across}
use Rattle.dmf_vital.specs.Tree.{not_reached, back_of, place_of}
use Rattle.dmf_vital.proofs.Growing.{both-ok, both-err, on-ok}
use Rattle.dmf_vital.proofs.ExitHeads.{entered-grown, entered-keeps, entered-behind, entered-now}
use Rattle.dmf_vital.proofs.Summed.{exit-head}
use Rattle.dmf_vital.proofs.search.enter_over.Goals.{After-is_exit-exit, After-reach, then-flow-eq0-via-then-flow-eq0, then-flow-eq0-via-else-flow-eq0+then-not-exit, then-flow-eq0-via-else-flow-eq0+else-not-exit+then-index-gt0}
use Rattle.dmf_vital.proofs.search.enter_over.Goals as goal

pub bounds-steps-arc : goal.bounds-steps-arc
bounds-steps-arc c =
    let s = c.args.steps.now in
    omega (arith, (has_arc-within s.state.now.network c.args.arc c.requires.is_there).1, AllZip-long _ s.state.now.network.arcs s.flows.now c.requires.within)

-- the head is a node
node : (c : After-is_exit-exit) → IsNode c.args.steps.now.state.now.network.nodes c.arc-ends.result.head
node c =
    let n = c.args.steps.now.state.now.network in
    let good = c.arc-ends.ensures.state.network.arcs (c.args.arc - 1) no_arc (has_arc-within n c.args.arc c.requires.is_there).1 in
    subst (IsNode n.nodes) (ap (λ (a : Arc). a.head) (sym c.arc-ends.ensures.value)) good.head

pub overflow_sub-ends : goal.overflow_sub-ends
overflow_sub-ends c = (node (goal.at.overflow_sub-ends c).After-is_exit-exit).from_one

pub index-requires : goal.index-requires
index-requires c =
    let at = node (goal.at.index-requires c).After-is_exit-exit in
    omega (arith, at.from_one, at.to_last, c.requires.grown.are.one_each, c.args.tree.now.nodes.ok.0)

pub reach-requires : goal.reach-requires
reach-requires c = rw c.requires.grown.are.one_each (node (goal.at.reach-requires c).After-is_exit-exit)

-- The arc leads between nodes of different ranks.
pub returns-then-is_across-clause-entered : goal.returns-then-is_across-clause-entered
returns-then-is_across-clause-entered c =
    let ranks = c.args.steps.now.exits.ranks.now in
    λ there exit carries level. absurd (both_ways (is_across ranks (arc_number c.args.steps.now.state.now.network c.args.arc)) level
    (ap (is_across ranks) (sym c.arc-ends.ensures.value) ∙ sym c.is_across.ensures ∙ c.if-is_across.true))

pub returns-then-flow-eq0-clause-entered : goal.returns-then-flow-eq0-clause-entered
returns-then-flow-eq0-clause-entered c =
    let at = (goal.at.returns-then-flow-eq0-clause-entered c).After-is_exit-exit in
    let s = c.args.steps.now in
    let n = s.state.now.network in
    let nodes = c.args.tree.now.nodes.items in
    let v : ℕ = c.arc-ends.result.head in
    let head : v ≡ (arc_number n c.args.arc).head = ap (λ (a : Arc). a.head) c.arc-ends.ensures.value in
    λ there exit carries _. elim c.then-flow-eq0.branch [
      | then-flow-eq0-via-then-flow-eq0 w ↦ absurd (omega (arith, carries, w.if-flow-eq0.true))
      | then-flow-eq0-via-else-flow-eq0+then-not-exit w ↦
          absurd (both_ways (is_exit n s.exits c.args.arc)
          (ap (is_exit_arc s.exits c.args.arc) (sym c.arc-ends.ensures.value) ∙ sym c.is_exit-exit.ensures ∙ w.if-not-exit.true) exit)
      | then-flow-eq0-via-else-flow-eq0+else-not-exit+then-index-gt0 w ↦
          let is = node at in
          let within : v - 1 < length nodes = omega (arith, is.from_one, is.to_last, c.requires.grown.are.one_each) in
          let entry = get_or_read nodes (v - 1) w.index.result.now within w.index.ensures not_reached in
          let place = ap (λ (r : Reached). r.place) entry in
          let some : 0 < place_of nodes v = omega (arith, place, w.if-index-gt0.true) in
          let back : back_of nodes v ≡ true = true_from_ne_false (back_of nodes v) (λ ahead.
          exit-head n s.exits c.args.arc c.requires.exits exit (sym head ∙ c.requires.behind v is some ahead)) in
          (subst (λ u. 0 < place_of nodes u) head some, ap (back_of nodes) (sym head) ∙ back)
    ]

-- What is known where the head is reached.
record IsReaching (c : After-reach) : Type 0 where
  exit : is_exit c.args.steps.now.state.now.network c.args.steps.now.exits c.args.arc ≡ true
  carries : 0 < flow_on c.args.steps.now.flows.now c.args.arc
  level : is_across c.args.steps.now.exits.ranks.now (arc_number c.args.steps.now.state.now.network c.args.arc) ≡ false
  leads : (arc_number c.args.steps.now.state.now.network c.args.arc).head ≡ c.arc-ends.result.head
  node : IsNode c.args.steps.now.state.now.network.nodes c.arc-ends.result.head
  apart : c.arc-ends.result.head ≢ c.args.steps.now.exits.node
  new : place_of c.args.tree.now.nodes.items c.arc-ends.result.head ≡ 0

reaching : (c : After-reach) → IsReaching c
reaching c =
    let s = c.args.steps.now in
    let n = s.state.now.network in
    let nodes = c.args.tree.now.nodes.items in
    let v : ℕ = c.arc-ends.result.head in
    let head : v ≡ (arc_number n c.args.arc).head = ap (λ (a : Arc). a.head) c.arc-ends.ensures.value in
    let good = c.arc-ends.ensures.state.network.arcs (c.args.arc - 1) no_arc (has_arc-within n c.args.arc c.requires.is_there).1 in
    let is : IsNode n.nodes v = subst (IsNode n.nodes) (sym head) good.head in
    let exit : is_exit n s.exits c.args.arc ≡ true =
    ap (is_exit_arc s.exits c.args.arc) (sym c.arc-ends.ensures.value) ∙ sym c.is_exit-exit.ensures ∙ c.if-not-exit.false in
    let within : v - 1 < length nodes = omega (arith, is.from_one, is.to_last, c.requires.grown.are.one_each) in
    let place = ap (λ (r : Reached). r.place) (get_or_read nodes (v - 1) c.index.result.now within c.index.ensures not_reached) in
    record {
      exit = exit;
      carries = omega (arith, c.if-flow-eq0.false);
      level = ap (is_across s.exits.ranks.now) (sym c.arc-ends.ensures.value) ∙ sym c.is_across.ensures ∙ c.if-is_across.false;
      leads = sym head;
      node = is;
      apart = λ same. exit-head n s.exits c.args.arc c.requires.exits exit (sym head ∙ same);
      new = omega (arith, place, c.if-index-gt0.false);
    }

pub returns-clause-grown : goal.returns-clause-grown
returns-clause-grown c =
    let s = c.args.steps.now in
    let is = reaching (goal.at.returns-clause-grown c).After-reach in
    entered-grown s.state.now.network s.flows.now s.exits c.args.arc c.arc-ends.result.head c.args.tree.now.nodes.items c.reach.new.tree.nodes.items
    c.args.tree.now.found.items c.reach.new.tree.found.items c.requires.is_there is.exit is.carries is.level is.leads is.node is.apart is.new c.requires.grown
    c.requires.behind c.reach.result (both-ok c.reach.result _ _ c.reach.ensures.nodes c.reach.ensures.found)
    (both-err c.reach.result _ _ c.reach.ensures.nodes_stay c.reach.ensures.found_stay)

pub returns-clause-kept : goal.returns-clause-kept
returns-clause-kept c =
    let s = c.args.steps.now in
    let is = reaching (goal.at.returns-clause-kept c).After-reach in
    entered-keeps s.state.now.network s.flows.now s.exits c.args.arc c.arc-ends.result.head c.args.tree.now.nodes.items c.reach.new.tree.nodes.items
    c.args.tree.now.found.items c.reach.new.tree.found.items c.requires.is_there is.exit is.carries is.level is.leads is.node is.apart is.new c.requires.grown
    c.requires.behind c.reach.result c.reach.ensures.nodes c.reach.ensures.nodes_stay

pub returns-clause-behind : goal.returns-clause-behind
returns-clause-behind c =
    let s = c.args.steps.now in
    let is = reaching (goal.at.returns-clause-behind c).After-reach in
    entered-behind s.state.now.network s.flows.now s.exits c.args.arc c.arc-ends.result.head c.args.tree.now.nodes.items c.reach.new.tree.nodes.items
    c.args.tree.now.found.items c.reach.new.tree.found.items c.requires.is_there is.exit is.carries is.level is.leads is.node is.apart is.new c.requires.grown
    c.requires.behind c.reach.result c.reach.ensures.nodes c.reach.ensures.nodes_stay

pub returns-clause-entered : goal.returns-clause-entered
returns-clause-entered c =
    let s = c.args.steps.now in
    let is = reaching (goal.at.returns-clause-entered c).After-reach in
    on-ok c.reach.result _ _ c.reach.ensures.nodes
    (entered-now s.state.now.network s.flows.now s.exits c.args.arc c.arc-ends.result.head c.args.tree.now.nodes.items c.reach.new.tree.nodes.items
    c.args.tree.now.found.items c.reach.new.tree.found.items c.requires.is_there is.exit is.carries is.level is.leads is.node is.apart is.new c.requires.grown
    c.requires.behind)
