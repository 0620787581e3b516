use Rattle.std.proofs.Common.{ℕ, ◌≡◌, ◌-◌, ◌<◌, ◌≤◌, ap, ◌∙◌, sym, arith, subst}
use Rattle.std.proofs.lemmas.List.{get_or_read}
use Rattle.std.proofs.lemmas.Slice.Zip.{AllZip-long}
use Rattle.dmf_node.specs.Node.{IsNode}
use Rattle.dmf_state.specs.declared.arc.Arc.{Arc}
use Rattle.dmf_state.specs.Arc.{no_arc}
use Rattle.dmf_state.specs.Flow.{AreWithinCapacities, flow_on}
use Rattle.dmf_state.specs.Network.{arc_number}
use Rattle.dmf_state.proofs.ChangedArc.{has_arc-within}
use Rattle.dmf_state.proofs.Changing.{within-at}
use Rattle.dmf_vital.specs.declared.tree.Reached.{Reached}
use Rattle.dmf_vital.specs.Hop.{from_of, to_of, room_of}
use Rattle.dmf_vital.specs.Shifted.{HasSteps, IsClimbed, KeepsOthers}
use Rattle.dmf_vital.specs.Tree.{not_reached, at_node, back_of, place_of}
use Rattle.dmf_vital.proofs.Chained.{node-from, node-to}
use Rattle.dmf_vital.proofs.Moved.{over, exit-there, long-after, moved-taken, shifted-over, steps-middle, steps-over, taken-greatest, taken-ranks}
use Rattle.dmf_vital.proofs.push.push.Goals.{After-to_of-end, After-min-amount, After-climb, After-climb-exit}
use Rattle.dmf_vital.proofs.push.push.Goals as goal

pub bounds-flows-hop : goal.bounds-flows-hop
bounds-flows-hop c =
    let n = c.args.state.now.network in
    omega (arith, (has_arc-within n c.args.hop.arc c.requires.crossing.is_there).1, AllZip-long _ n.arcs c.args.flows.now c.requires.greatest.flow.within)

pub room_of-room-requires : goal.room_of-room-requires
room_of-room-requires c =
    omega (
      arith,
      within-at c.args.state.now.network.arcs c.args.flows.now (c.args.hop.arc - 1) c.requires.greatest.flow.within,
      ap (λ (a : Arc). a.cap) c.arc-arc.ensures.value,
    )

pub send-requires-clause-to_last : goal.send-requires-clause-to_last
send-requires-clause-to_last c =
    let n = c.args.state.now.network in
    omega (arith, has_arc-within n c.args.hop.arc c.requires.crossing.is_there, AllZip-long _ n.arcs c.args.flows.now c.requires.greatest.flow.within)

-- the ends of the step
start : (c : After-to_of-end) → c.from_of-start.result ≡ from_of c.args.hop.against (arc_number c.args.state.now.network c.args.hop.arc)
start c = c.from_of-start.ensures ∙ ap (from_of c.args.hop.against) c.arc-arc.ensures.value

end : (c : After-to_of-end) → c.to_of-end.result ≡ to_of c.args.hop.against (arc_number c.args.state.now.network c.args.hop.arc)
end c = c.to_of-end.ensures ∙ ap (to_of c.args.hop.against) c.arc-arc.ensures.value

node-start : (c : After-to_of-end) → IsNode c.args.state.now.network.nodes c.from_of-start.result
node-start c =
    let n = c.args.state.now.network in
    let good = c.arc-arc.ensures.state.network.arcs (c.args.hop.arc - 1) no_arc (has_arc-within n c.args.hop.arc c.requires.crossing.is_there).1 in
    subst (IsNode n.nodes) (sym (start c)) (node-from c.args.hop.against n.nodes _ good)

node-end : (c : After-to_of-end) → IsNode c.args.state.now.network.nodes c.to_of-end.result
node-end c =
    let n = c.args.state.now.network in
    let good = c.arc-arc.ensures.state.network.arcs (c.args.hop.arc - 1) no_arc (has_arc-within n c.args.hop.arc c.requires.crossing.is_there).1 in
    subst (IsNode n.nodes) (sym (end c)) (node-to c.args.hop.against n.nodes _ good)

pub overflow_sub-start : goal.overflow_sub-start
overflow_sub-start c = (node-start (goal.at.overflow_sub-start c).After-to_of-end).from_one

pub overflow_sub-end : goal.overflow_sub-end
overflow_sub-end c = (node-end (goal.at.overflow_sub-end c).After-to_of-end).from_one

-- What is known of the amount.
record IsFitting (c : After-min-amount) : Type 0 where
  room : c.min-amount.result ≤ room_of c.args.hop.against (arc_number c.args.state.now.network c.args.hop.arc) (flow_on c.args.flows.now c.args.hop.arc)
  first : c.min-amount.result ≤ (at_node c.args.tree.now.nodes.items c.from_of-start.result).width
  second : c.min-amount.result ≤ (at_node c.args.tree.now.nodes.items c.to_of-end.result).width
  some : 0 < c.min-amount.result

fitting : (c : After-min-amount) (at : After-to_of-end) → IsNode c.args.state.now.network.nodes c.from_of-start.result
    → IsNode c.args.state.now.network.nodes c.to_of-end.result
    → c.from_of-start.result ≡ from_of c.args.hop.against (arc_number c.args.state.now.network c.args.hop.arc)
    → c.to_of-end.result ≡ to_of c.args.hop.against (arc_number c.args.state.now.network c.args.hop.arc) → IsFitting c
fitting c at one two first_is second_is =
    let n = c.args.state.now.network in
    let nodes = c.args.tree.now.nodes.items in
    let grown = c.requires.grown in
    let flow : ℕ = flow_on c.args.flows.now c.args.hop.arc in
    let u : ℕ = c.from_of-start.result in
    let v : ℕ = c.to_of-end.result in
    let width_u = ap (λ (r : Reached). r.width)
    (get_or_read nodes (u - 1) c.index.result.now (omega (arith, one.from_one, one.to_last, grown.are.one_each)) c.index.ensures not_reached) in
    let width_v = ap (λ (r : Reached). r.width)
    (get_or_read nodes (v - 1) c.index-2.result.now (omega (arith, two.from_one, two.to_last, grown.are.one_each)) c.index-2.ensures not_reached) in
    let room = c.room_of-room.ensures ∙ ap (λ (a : Arc). room_of c.args.hop.against a flow) c.arc-arc.ensures.value in
    let wide_u = grown.wide u one (subst (λ w. 0 < place_of nodes w) (sym first_is) c.requires.crossing.from_reached) in
    let wide_v = grown.wide v two (subst (λ w. 0 < place_of nodes w) (sym second_is) c.requires.crossing.to_reached) in
    record {
      room = omega (arith, room, c.min.ensures, c.min-amount.ensures);
      first = omega (arith, width_u, c.min.ensures, c.min-amount.ensures);
      second = omega (arith, width_v, c.min.ensures, c.min-amount.ensures);
      some = omega (arith, room, width_u, width_v, c.min.ensures, c.min-amount.ensures, wide_u, wide_v, c.requires.crossing.room);
    }

pub climb-requires-clause-within : goal.climb-requires-clause-within
climb-requires-clause-within c =
    let n = c.args.state.now.network in
    let at = (goal.at.climb-requires-clause-within c).After-to_of-end in
    let fits = fitting (goal.at.climb-requires-clause-within c).After-min-amount at (node-start at) (node-end at) (start at) (end at) in
    subst (AreWithinCapacities n.arcs) (sym c.send.ensures)
    (shifted-over n c.args.exits c.args.tree.now.nodes.items c.args.tree.now.found.items c.args.flows.now c.args.hop c.min-amount.result c.requires.exits
    c.requires.greatest c.requires.grown c.requires.crossing fits.room).within

pub climb-requires-clause-steps : goal.climb-requires-clause-steps
climb-requires-clause-steps c =
    let n = c.args.state.now.network in
    let nodes = c.args.tree.now.nodes.items in
    let side = back_of nodes c.from_of-start.result in
    let at = (goal.at.climb-requires-clause-steps c).After-to_of-end in
    let fits = fitting (goal.at.climb-requires-clause-steps c).After-min-amount at (node-start at) (node-end at) (start at) (end at) in
    subst (λ xs. HasSteps n xs c.args.exits nodes side) (sym c.send.ensures)
    (steps-over n c.args.exits nodes c.args.tree.now.found.items c.args.flows.now c.args.hop c.min-amount.result c.requires.exits
    c.requires.greatest c.requires.grown c.requires.crossing fits.room side)

pub climb-requires-clause-node : goal.climb-requires-clause-node
climb-requires-clause-node c = node-start (goal.at.climb-requires-clause-node c).After-to_of-end

pub climb-requires-clause-fits : goal.climb-requires-clause-fits
climb-requires-clause-fits c =
    let at = (goal.at.climb-requires-clause-fits c).After-to_of-end in
    (fitting (goal.at.climb-requires-clause-fits c).After-min-amount at (node-start at) (node-end at) (start at) (end at)).first

-- What the first climb has done.
record IsFirst (c : After-climb) : Type 0 where
  room : c.min-amount.result ≤ room_of c.args.hop.against (arc_number c.args.state.now.network c.args.hop.arc) (flow_on c.args.flows.now c.args.hop.arc)
  climbed : IsClimbed c.args.state.now.network c.args.exits c.args.tree.now.nodes.items
      (from_of c.args.hop.against (arc_number c.args.state.now.network c.args.hop.arc)) c.min-amount.result
      (over c.args.state.now.network c.args.exits c.args.tree.now.nodes.items c.args.tree.now.found.items c.args.flows.now c.args.hop c.min-amount.result
      c.requires.exits c.requires.greatest c.requires.grown c.requires.crossing room) c.climb.new.flows c.climb.result
  others : KeepsOthers c.args.state.now.network c.args.tree.now.nodes.items
      (back_of c.args.tree.now.nodes.items (from_of c.args.hop.against (arc_number c.args.state.now.network c.args.hop.arc)))
      (over c.args.state.now.network c.args.exits c.args.tree.now.nodes.items c.args.tree.now.found.items c.args.flows.now c.args.hop c.min-amount.result
      c.requires.exits c.requires.greatest c.requires.grown c.requires.crossing room) c.climb.new.flows

first : (c : After-climb)
    → c.min-amount.result ≤ room_of c.args.hop.against (arc_number c.args.state.now.network c.args.hop.arc) (flow_on c.args.flows.now c.args.hop.arc)
    → c.from_of-start.result ≡ from_of c.args.hop.against (arc_number c.args.state.now.network c.args.hop.arc) → IsFirst c
first c room is =
    let n = c.args.state.now.network in
    let nodes = c.args.tree.now.nodes.items in
    record {
      room = room;
      climbed = subst (λ u. IsClimbed n c.args.exits nodes u c.min-amount.result (over n c.args.exits nodes c.args.tree.now.found.items c.args.flows.now c.args.hop c.min-amount.result
          c.requires.exits c.requires.greatest c.requires.grown c.requires.crossing room) c.climb.new.flows c.climb.result) is
          (subst (λ xs. IsClimbed n c.args.exits nodes c.from_of-start.result c.min-amount.result xs c.climb.new.flows c.climb.result) c.send.ensures
          c.climb.ensures.climbed);
      others = subst (λ u. KeepsOthers n nodes (back_of nodes u) (over n c.args.exits nodes c.args.tree.now.found.items c.args.flows.now c.args.hop c.min-amount.result
          c.requires.exits c.requires.greatest c.requires.grown c.requires.crossing room) c.climb.new.flows) is
          (subst (λ xs. KeepsOthers n nodes (back_of nodes c.from_of-start.result) xs c.climb.new.flows) c.send.ensures c.climb.ensures.others);
    }

pub climb-exit-requires-clause-steps : goal.climb-exit-requires-clause-steps
climb-exit-requires-clause-steps c =
    let n = c.args.state.now.network in
    let nodes = c.args.tree.now.nodes.items in
    let at = (goal.at.climb-exit-requires-clause-steps c).After-to_of-end in
    let fits = fitting (goal.at.climb-exit-requires-clause-steps c).After-min-amount at (node-start at) (node-end at) (start at) (end at) in
    let is = first (goal.at.climb-exit-requires-clause-steps c).After-climb fits.room (start at) in
    subst (λ u. HasSteps n c.climb.new.flows c.args.exits nodes (back_of nodes u)) (sym (end at))
    (steps-middle n c.args.exits nodes c.args.tree.now.found.items c.args.flows.now c.args.hop c.min-amount.result c.requires.exits
    c.requires.greatest c.requires.grown c.requires.crossing is.room c.climb.new.flows c.climb.result is.climbed is.others)

pub climb-exit-requires-clause-node : goal.climb-exit-requires-clause-node
climb-exit-requires-clause-node c = node-end (goal.at.climb-exit-requires-clause-node c).After-to_of-end

pub climb-exit-requires-clause-fits : goal.climb-exit-requires-clause-fits
climb-exit-requires-clause-fits c =
    let at = (goal.at.climb-exit-requires-clause-fits c).After-to_of-end in
    (fitting (goal.at.climb-exit-requires-clause-fits c).After-min-amount at (node-start at) (node-end at) (start at) (end at)).second

-- what the second climb has done
second : (c : After-climb-exit) → c.to_of-end.result ≡ to_of c.args.hop.against (arc_number c.args.state.now.network c.args.hop.arc)
    → IsClimbed c.args.state.now.network c.args.exits c.args.tree.now.nodes.items (to_of c.args.hop.against (arc_number c.args.state.now.network c.args.hop.arc))
    c.min-amount.result c.climb.new.flows c.climb-exit.new.flows c.climb-exit.result
second c is = subst (λ u. IsClimbed c.args.state.now.network c.args.exits c.args.tree.now.nodes.items u c.min-amount.result c.climb.new.flows
    c.climb-exit.new.flows c.climb-exit.result) is c.climb-exit.ensures.climbed

pub overflow_sub-k : goal.overflow_sub-k
overflow_sub-k c =
    let n = c.args.state.now.network in
    let nodes = c.args.tree.now.nodes.items in
    let at = (goal.at.overflow_sub-k c).After-to_of-end in
    let fits = fitting (goal.at.overflow_sub-k c).After-min-amount at (node-start at) (node-end at) (start at) (end at) in
    let is = first (goal.at.overflow_sub-k c).After-climb fits.room (start at) in
    let then = second (goal.at.overflow_sub-k c).After-climb-exit (end at) in
    let there = exit-there n c.args.exits nodes c.args.tree.now.found.items c.args.flows.now c.args.hop c.min-amount.result c.requires.exits
    c.requires.greatest c.requires.grown c.requires.crossing is.room c.climb.new.flows c.climb.result is.climbed is.others c.climb-exit.new.flows
    c.climb-exit.result then in
    (has_arc-within n c.climb-exit.result there).0

pub bounds-flows-k : goal.bounds-flows-k
bounds-flows-k c =
    let n = c.args.state.now.network in
    let nodes = c.args.tree.now.nodes.items in
    let at = (goal.at.bounds-flows-k c).After-to_of-end in
    let fits = fitting (goal.at.bounds-flows-k c).After-min-amount at (node-start at) (node-end at) (start at) (end at) in
    let is = first (goal.at.bounds-flows-k c).After-climb fits.room (start at) in
    let then = second (goal.at.bounds-flows-k c).After-climb-exit (end at) in
    let there = exit-there n c.args.exits nodes c.args.tree.now.found.items c.args.flows.now c.args.hop c.min-amount.result c.requires.exits
    c.requires.greatest c.requires.grown c.requires.crossing is.room c.climb.new.flows c.climb.result is.climbed is.others c.climb-exit.new.flows
    c.climb-exit.result then in
    let long = long-after n c.args.exits nodes c.args.tree.now.found.items c.args.flows.now c.args.hop c.min-amount.result c.requires.exits
    c.requires.greatest c.requires.grown c.requires.crossing is.room c.climb.new.flows c.climb.result is.climbed is.others c.climb-exit.new.flows
    c.climb-exit.result then in
    omega (arith, (has_arc-within n c.climb-exit.result there).1, long)

pub bounds-flows-k-2 : goal.bounds-flows-k-2
bounds-flows-k-2 c =
    let n = c.args.state.now.network in
    let nodes = c.args.tree.now.nodes.items in
    let at = (goal.at.bounds-flows-k-2 c).After-to_of-end in
    let fits = fitting (goal.at.bounds-flows-k-2 c).After-min-amount at (node-start at) (node-end at) (start at) (end at) in
    let is = first (goal.at.bounds-flows-k-2 c).After-climb fits.room (start at) in
    let then = second (goal.at.bounds-flows-k-2 c).After-climb-exit (end at) in
    let there = exit-there n c.args.exits nodes c.args.tree.now.found.items c.args.flows.now c.args.hop c.min-amount.result c.requires.exits
    c.requires.greatest c.requires.grown c.requires.crossing is.room c.climb.new.flows c.climb.result is.climbed is.others c.climb-exit.new.flows
    c.climb-exit.result then in
    let long = long-after n c.args.exits nodes c.args.tree.now.found.items c.args.flows.now c.args.hop c.min-amount.result c.requires.exits
    c.requires.greatest c.requires.grown c.requires.crossing is.room c.climb.new.flows c.climb.result is.climbed is.others c.climb-exit.new.flows
    c.climb-exit.result then in
    omega (arith, (has_arc-within n c.climb-exit.result there).1, long)

pub returns-clause-some : goal.returns-clause-some
returns-clause-some c =
    let at = (goal.at.returns-clause-some c).After-to_of-end in
    (fitting (goal.at.returns-clause-some c).After-min-amount at (node-start at) (node-end at) (start at) (end at)).some

pub returns-clause-moves : goal.returns-clause-moves
returns-clause-moves c =
    let n = c.args.state.now.network in
    let nodes = c.args.tree.now.nodes.items in
    let at = (goal.at.returns-clause-moves c).After-to_of-end in
    let fits = fitting (goal.at.returns-clause-moves c).After-min-amount at (node-start at) (node-end at) (start at) (end at) in
    let is = first (goal.at.returns-clause-moves c).After-climb fits.room (start at) in
    let then = second (goal.at.returns-clause-moves c).After-climb-exit (end at) in
    moved-taken n c.args.exits nodes c.args.tree.now.found.items c.args.flows.now c.args.hop c.min-amount.result c.requires.exits
    c.requires.greatest c.requires.grown c.requires.crossing is.room c.climb.new.flows c.climb.result is.climbed is.others c.climb-exit.new.flows
    c.climb-exit.result then

pub returns-clause-greatest : goal.returns-clause-greatest
returns-clause-greatest c =
    let n = c.args.state.now.network in
    let nodes = c.args.tree.now.nodes.items in
    let at = (goal.at.returns-clause-greatest c).After-to_of-end in
    let fits = fitting (goal.at.returns-clause-greatest c).After-min-amount at (node-start at) (node-end at) (start at) (end at) in
    let is = first (goal.at.returns-clause-greatest c).After-climb fits.room (start at) in
    let then = second (goal.at.returns-clause-greatest c).After-climb-exit (end at) in
    taken-greatest n c.args.exits nodes c.args.tree.now.found.items c.args.flows.now c.args.hop c.min-amount.result c.requires.exits
    c.requires.greatest c.requires.grown c.requires.crossing is.room c.climb.new.flows c.climb.result is.climbed is.others c.climb-exit.new.flows
    c.climb-exit.result then

pub returns-clause-ranks : goal.returns-clause-ranks
returns-clause-ranks c =
    let n = c.args.state.now.network in
    let nodes = c.args.tree.now.nodes.items in
    let at = (goal.at.returns-clause-ranks c).After-to_of-end in
    let fits = fitting (goal.at.returns-clause-ranks c).After-min-amount at (node-start at) (node-end at) (start at) (end at) in
    let is = first (goal.at.returns-clause-ranks c).After-climb fits.room (start at) in
    let then = second (goal.at.returns-clause-ranks c).After-climb-exit (end at) in
    taken-ranks n c.args.exits nodes c.args.tree.now.found.items c.args.flows.now c.args.hop c.min-amount.result c.requires.exits
    c.requires.greatest c.requires.grown c.requires.crossing is.room c.climb.new.flows c.climb.result is.climbed is.others c.climb-exit.new.flows
    c.climb-exit.result then c.requires.ranks
