use Rattle.std.proofs.Common.{ℕ, ◌≡◌, ◌<◌, ◌-◌, false, ap, ◌∙◌, sym, subst, arith, get_or, length}
use Rattle.std.proofs.lemmas.Bool.{both_ways}
use Rattle.std.proofs.lemmas.List.{get_or_read}
use Rattle.std.proofs.lemmas.Slice.Zip.{AllZip-long}
use Rattle.dmf_node.specs.Node.{IsNode}
use Rattle.dmf_state.specs.declared.arc.Arc.{Arc}
use Rattle.dmf_state.specs.Arc.{no_arc}
use Rattle.dmf_state.specs.Network.{arc_number}
use Rattle.dmf_state.proofs.ChangedArc.{has_arc-within}
use Rattle.dmf_state.proofs.Changing.{within-at}
use Rattle.dmf_vital.specs.declared.tree.Reached.{Reached}
use Rattle.dmf_vital.specs.Exits.{is_barred, is_barred_arc}
use Rattle.dmf_vital.specs.Hop.{to_of, room_of, turned}
use Rattle.dmf_vital.specs.Tree.{not_reached, back_of, place_of, room_over}
use Rattle.dmf_vital.proofs.Chained.{node-to}
use Rattle.dmf_vital.proofs.Growing.{LeadsOn, leads-on, both-ok, both-err, stepped-grown, stepped-keeps, stepped-leads}
use Rattle.dmf_vital.proofs.Crossing.{met-stepped}
use Rattle.dmf_vital.proofs.search.step_over.Goals.{After-room_of-room, After-to_of-v, After-reach, then-room-eq0-via-then-room-eq0, then-room-eq0-via-else-room-eq0+then-is_barred}
use Rattle.dmf_vital.proofs.search.step_over.Goals as goal

pub bounds-steps-hop : goal.bounds-steps-hop
bounds-steps-hop c =
    let s = c.args.steps.now in
    omega (arith, (has_arc-within s.state.now.network c.args.hop.arc c.requires.is_there).1, AllZip-long _ s.state.now.network.arcs s.flows.now c.requires.within)

pub room_of-room-requires : goal.room_of-room-requires
room_of-room-requires c =
    let s = c.args.steps.now in
    omega (arith, within-at s.state.now.network.arcs s.flows.now (c.args.hop.arc - 1) c.requires.within, ap (λ (a : Arc). a.cap) c.arc-arc.ensures.value)

-- the room as it is
room : (c : After-room_of-room) → c.room_of-room.result ≡ room_over c.args.steps.now.state.now.network c.args.steps.now.flows.now c.args.back c.args.hop.against c.args.hop.arc
room c =
    let flow : ℕ = get_or c.args.steps.now.flows.now (c.args.hop.arc - 1) 0 in
    c.room_of-room.ensures
    ∙ ap (λ t. room_of t c.arc-arc.result flow) c.turned.ensures
    ∙ ap (λ (a : Arc). room_of (turned c.args.back c.args.hop.against) a flow) c.arc-arc.ensures.value

-- The step has no room, or is over an exit.
pub returns-then-room-eq0-clause-stepped : goal.returns-then-room-eq0-clause-stepped
returns-then-room-eq0-clause-stepped c =
    let is = room (goal.at.returns-then-room-eq0-clause-stepped c).After-room_of-room in
    λ there other from some. elim c.then-room-eq0.branch [
      | then-room-eq0-via-then-room-eq0 w ↦ absurd (omega (arith, is, some, w.if-room-eq0.true))
      | then-room-eq0-via-else-room-eq0+then-is_barred w ↦
          absurd (both_ways (is_barred c.args.steps.now.state.now.network c.args.steps.now.exits c.args.hop.arc) other
          (ap (is_barred_arc c.args.steps.now.exits c.args.hop.arc) (sym c.arc-arc.ensures.value) ∙ sym w.is_barred.ensures ∙ w.if-is_barred.true))
    ]

-- the node to which it leads
to : (c : After-to_of-v) → c.to_of-v.result ≡ to_of c.args.hop.against (arc_number c.args.steps.now.state.now.network c.args.hop.arc)
to c = c.to_of-v.ensures ∙ ap (to_of c.args.hop.against) c.arc-arc.ensures.value

node : (c : After-to_of-v) → IsNode c.args.steps.now.state.now.network.nodes c.to_of-v.result
node c =
    let n = c.args.steps.now.state.now.network in
    let good = c.arc-arc.ensures.state.network.arcs (c.args.hop.arc - 1) no_arc (has_arc-within n c.args.hop.arc c.requires.is_there).1 in
    subst (IsNode n.nodes) (sym (to c)) (node-to c.args.hop.against n.nodes _ good)

-- it is over no exit
other : (c : After-to_of-v) → is_barred c.args.steps.now.state.now.network c.args.steps.now.exits c.args.hop.arc ≡ false
other c = ap (is_barred_arc c.args.steps.now.exits c.args.hop.arc) (sym c.arc-arc.ensures.value) ∙ sym c.is_barred.ensures ∙ c.if-is_barred.false

pub overflow_sub-v : goal.overflow_sub-v
overflow_sub-v c = (node (goal.at.overflow_sub-v c).After-to_of-v).from_one

pub index-there-requires : goal.index-there-requires
index-there-requires c =
    let at = node (goal.at.index-there-requires c).After-to_of-v in
    omega (arith, at.from_one, at.to_last, c.requires.grown.are.one_each, c.args.tree.now.nodes.ok.0)

pub reach-requires : goal.reach-requires
reach-requires c = rw c.requires.grown.are.one_each (node (goal.at.reach-requires c).After-to_of-v)

-- The node was reached before.
pub returns-then-there-gt0-clause-stepped : goal.returns-then-there-gt0-clause-stepped
returns-then-there-gt0-clause-stepped c =
    let at = (goal.at.returns-then-there-gt0-clause-stepped c).After-to_of-v in
    let s = c.args.steps.now in
    let n = s.state.now.network in
    let nodes = c.args.tree.now.nodes.items in
    let v : ℕ = c.to_of-v.result in
    let is = node at in
    let within : v - 1 < length nodes = omega (arith, is.from_one, is.to_last, c.requires.grown.are.one_each) in
    let entry = get_or_read nodes (v - 1) c.index-there.result.now within c.index-there.ensures not_reached in
    let place = ap (λ (r : Reached). r.place) entry in
    let end = ap (λ (r : Reached). r.back) entry in
    let some = room (goal.at.returns-then-there-gt0-clause-stepped c).After-room_of-room in
    met-stepped n s.flows.now s.exits nodes c.args.back c.index-there.result.now.back c.args.hop c.turned-then-there-gt0.result c.turned-then-there-gt0.ensures
    c.requires.is_there (other at) c.requires.reached c.requires.end (omega (arith, some, c.if-room-eq0.false))
    (subst (λ u. 0 < place_of nodes u) (to at) (omega (arith, place, c.if-there-gt0.true)))
    (ap (back_of nodes) (sym (to at)) ∙ sym end)

leads : (c : After-reach) → LeadsOn c.args.steps.now.state.now.network c.args.steps.now.exits c.args.tree.now.nodes.items c.args.back c.args.hop c.to_of-v.result
leads c = leads-on c.args.steps.now.state.now.network c.args.steps.now.exits c.to_of-v.result c.args.back c.args.hop c.arc-arc.result
    c.args.tree.now.nodes.items c.index-there.result.now c.arc-arc.ensures.state.network.arcs c.requires.grown.are.one_each c.requires.is_there
    (ap (is_barred_arc c.args.steps.now.exits c.args.hop.arc) (sym c.arc-arc.ensures.value) ∙ sym c.is_barred.ensures ∙ c.if-is_barred.false)
    c.requires.reached c.requires.end c.arc-arc.ensures.value c.to_of-v.ensures c.index-there.ensures c.if-there-gt0.false

room-now : (c : After-reach) → c.room_of-room.result ≡ room_over c.args.steps.now.state.now.network c.args.steps.now.flows.now c.args.back c.args.hop.against c.args.hop.arc
room-now c =
    let flow : ℕ = get_or c.args.steps.now.flows.now (c.args.hop.arc - 1) 0 in
    c.room_of-room.ensures
    ∙ ap (λ t. room_of t c.arc-arc.result flow) c.turned.ensures
    ∙ ap (λ (a : Arc). room_of (turned c.args.back c.args.hop.against) a flow) c.arc-arc.ensures.value

pub returns-clause-grown : goal.returns-clause-grown
returns-clause-grown c =
    let at = (goal.at.returns-clause-grown c).After-reach in
    let s = c.args.steps.now in
    stepped-grown s.state.now.network s.flows.now s.exits c.args.back c.to_of-v.result c.args.width c.room_of-room.result c.min.result c.args.hop
    c.args.tree.now.nodes.items c.reach.new.tree.nodes.items c.args.tree.now.found.items c.reach.new.tree.found.items (leads at) c.requires.grown
    c.requires.wide (room-now at) c.if-room-eq0.false c.min.ensures c.reach.result
    (both-ok c.reach.result _ _ c.reach.ensures.nodes c.reach.ensures.found) (both-err c.reach.result _ _ c.reach.ensures.nodes_stay c.reach.ensures.found_stay)

pub returns-clause-kept : goal.returns-clause-kept
returns-clause-kept c =
    let at = (goal.at.returns-clause-kept c).After-reach in
    let s = c.args.steps.now in
    stepped-keeps s.state.now.network s.flows.now s.exits c.args.back c.to_of-v.result c.args.width c.room_of-room.result c.min.result c.args.hop
    c.args.tree.now.nodes.items c.reach.new.tree.nodes.items c.args.tree.now.found.items c.reach.new.tree.found.items (leads at) c.requires.grown
    c.requires.wide (room-now at) c.if-room-eq0.false c.min.ensures c.reach.result c.reach.ensures.nodes c.reach.ensures.nodes_stay

pub returns-clause-stepped : goal.returns-clause-stepped
returns-clause-stepped c =
    let at = (goal.at.returns-clause-stepped c).After-reach in
    let s = c.args.steps.now in
    let after = c.reach.new.tree.nodes.items in
    let now = stepped-leads s.state.now.network s.flows.now s.exits c.args.back c.to_of-v.result c.args.width c.room_of-room.result c.min.result c.args.hop
    c.args.tree.now.nodes.items c.reach.new.tree.nodes.items c.args.tree.now.found.items c.reach.new.tree.found.items (leads at) c.requires.grown
    c.requires.wide (room-now at) c.if-room-eq0.false c.min.ensures c.in_ok-reach.ensures.nodes in
    λ there not_exit from some. (
      subst (λ v. 0 < place_of after v) (sym (leads at).leads_to) now.0,
      ap (back_of after) (leads at).leads_to ∙ now.1,
    )
