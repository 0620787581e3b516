use Rattle.std.proofs.Common.{ℕ, ◌+◌, ◌<◌, ◌-◌, length, ap, arith}
use Rattle.std.proofs.lemmas.List.{get_or_read}
use Rattle.std.proofs.lemmas.Slice.Zip.{AllZip-long}
use Rattle.dmf_state.proofs.ChangedArc.{has_arc-within}
use Rattle.dmf_vital.proofs.Summed.{first-le, summed-more, summed-none}
use Rattle.dmf_vital.proofs.rerouting.flow_on_exits.Goals as goal

pub bounds-flows-exits : goal.bounds-flows-exits
bounds-flows-exits c =
    let n = c.args.state.now.network in
    let there = c.requires.exits.is_there c.if-exits-ne0.true in
    omega (arith, (has_arc-within n c.args.exits.arc there).1, AllZip-long _ n.arcs c.args.flows.now c.requires.within)

pub loop-arc-init : goal.loop-arc-init
loop-arc-init c =
    let n = c.args.state.now.network in
    let node = c.requires.exits.node in
    let last = c.args.along.now.last.items in
    let inside : c.args.exits.node - 1 < length last = omega (arith, node.from_one, node.to_last, c.requires.along.one_a_node) in
    summed-none n c.args.flows.now last c.args.along.now.before.items c.requires.along c.args.exits.node node
    (AllZip-long _ n.arcs c.args.flows.now c.requires.within) c.index-arc.result.now
    (get_or_read last (c.args.exits.node - 1) c.index-arc.result.now inside c.index-arc.ensures 0)

pub bounds-flows-arc : goal.bounds-flows-arc
bounds-flows-arc c =
    omega (arith, c.loop-arc.invariant.within, c.loop-arc-test.true, AllZip-long _ c.args.state.now.network.arcs c.args.flows.now c.requires.within)

pub overflow_add-sum : goal.overflow_add-sum
overflow_add-sum c =
    let n = c.args.state.now.network in
    let most = first-le c.args.exits.node n.arcs c.args.flows.now c.loop-arc.sum c.loop-arc.arc c.requires.within c.loop-arc-test.true
    c.loop-arc.invariant.within c.loop-arc.invariant.all in
    omega (arith, most, c.flow_off-sum.ensures, c.requires.network.capacities)

pub loop-arc-preserved : goal.loop-arc-preserved
loop-arc-preserved c =
    let n = c.args.state.now.network in
    let before = c.args.along.now.before.items in
    let arc : ℕ = c.loop-arc.arc in
    let next : ℕ = c.index-arc-in-loop-arc.result.now in
    let inside : arc - 1 < length before = omega (arith, c.loop-arc.invariant.within, c.loop-arc-test.true, c.requires.along.one_an_arc) in
    (summed-more n c.args.flows.now c.args.along.now.last.items before c.requires.along c.args.exits.node c.requires.exits.node
    (AllZip-long _ n.arcs c.args.flows.now c.requires.within) c.loop-arc.sum (c.loop-arc.sum + c.flow_off-sum.result) arc next c.loop-arc-test.true
    (get_or_read before (arc - 1) next inside c.index-arc-in-loop-arc.ensures 0) c.loop-arc.invariant (ap (λ x. c.loop-arc.sum + x) c.flow_off-sum.ensures)).0
