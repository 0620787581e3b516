use Rattle.std.proofs.Common.{ℕ, ◌≤◌, ap, subst, arith}
use Rattle.std.proofs.lemmas.Slice.Zip.{AllZip-long}
use Rattle.dmf_state.specs.declared.arc.Arc.{Arc}
use Rattle.dmf_state.specs.Flow.{flow_on}
use Rattle.dmf_state.proofs.ChangedArc.{has_arc-within}
use Rattle.dmf_vital.specs.Shifted.{AreShifted}
use Rattle.dmf_vital.proofs.Sending.{along-greatest, along-moves, along-ranks}
use Rattle.dmf_vital.proofs.along.push_along.Goals as goal

pub bounds-flows-k : goal.bounds-flows-k
bounds-flows-k c =
    let n = c.args.state.now.network in
    let there = c.is_level_exit.ensures.is_there c.if-not-is_level_exit.false in
    omega (arith, (has_arc-within n c.args.exit there).1, AllZip-long _ n.arcs c.args.flows.now c.requires.greatest.flow.within)

pub bounds-flows-k-2 : goal.bounds-flows-k-2
bounds-flows-k-2 c =
    let n = c.args.state.now.network in
    let there = c.is_level_exit.ensures.is_there c.if-not-is_level_exit.false in
    let sent = c.send_along.ensures.sent c.if-not-send_along.false in
    omega (arith, (has_arc-within n c.args.exit there).1, AllZip-long _ n.arcs c.send_along.new.flows sent.within)

pub bounds-flows-k-3 : goal.bounds-flows-k-3
bounds-flows-k-3 c =
    let n = c.args.state.now.network in
    let there = c.is_level_exit.ensures.is_there c.if-not-is_level_exit.false in
    let sent = c.send_along.ensures.sent c.if-not-send_along.false in
    omega (arith, (has_arc-within n c.args.exit there).1, AllZip-long _ n.arcs c.send_along.new.flows sent.within)

pub returns-clause-moves : goal.returns-clause-moves
returns-clause-moves c =
    let n = c.args.state.now.network in
    let e = c.args.exits in
    let amount : ℕ = c.min-amount.result in
    let is = c.is_level_exit.ensures in
    let level = c.if-not-is_level_exit.false in
    let fits : amount ≤ flow_on c.args.flows.now c.args.exit = omega (arith, c.min-amount.ensures) in
    let sent = subst (λ v. AreShifted n e e.node v amount c.args.flows.now c.send_along.new.flows) (ap (λ (a : Arc). a.head) c.arc-end.ensures.value)
    (c.send_along.ensures.sent c.if-not-send_along.false) in
    along-moves n e c.args.exit amount c.args.flows.now c.send_along.new.flows c.requires.exits c.requires.greatest (is.is_there level) (is.exit level)
    (is.level level) fits sent

pub returns-clause-greatest : goal.returns-clause-greatest
returns-clause-greatest c =
    let n = c.args.state.now.network in
    let e = c.args.exits in
    let amount : ℕ = c.min-amount.result in
    let is = c.is_level_exit.ensures in
    let level = c.if-not-is_level_exit.false in
    let fits : amount ≤ flow_on c.args.flows.now c.args.exit = omega (arith, c.min-amount.ensures) in
    let sent = subst (λ v. AreShifted n e e.node v amount c.args.flows.now c.send_along.new.flows) (ap (λ (a : Arc). a.head) c.arc-end.ensures.value)
    (c.send_along.ensures.sent c.if-not-send_along.false) in
    along-greatest n e c.args.exit amount c.args.flows.now c.send_along.new.flows c.requires.exits c.requires.greatest (is.is_there level) (is.exit level)
    (is.level level) fits sent

pub returns-clause-ranks : goal.returns-clause-ranks
returns-clause-ranks c =
    let n = c.args.state.now.network in
    let e = c.args.exits in
    let amount : ℕ = c.min-amount.result in
    let is = c.is_level_exit.ensures in
    let level = c.if-not-is_level_exit.false in
    let fits : amount ≤ flow_on c.args.flows.now c.args.exit = omega (arith, c.min-amount.ensures) in
    let sent = subst (λ v. AreShifted n e e.node v amount c.args.flows.now c.send_along.new.flows) (ap (λ (a : Arc). a.head) c.arc-end.ensures.value)
    (c.send_along.ensures.sent c.if-not-send_along.false) in
    along-ranks n e c.args.exit amount c.args.flows.now c.send_along.new.flows c.requires.exits c.requires.greatest (is.is_there level) (is.exit level)
    (is.level level) fits sent c.requires.ranks
