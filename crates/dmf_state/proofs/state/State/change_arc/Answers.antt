use Rattle.std.proofs.Common.{◌-◌, ap, arith}
use Rattle.dmf_state.specs.declared.arc.Arc.{Arc}
use Rattle.dmf_state.specs.NetworkState.{with_flows}
use Rattle.dmf_state.specs.Direction.{along}
use Rattle.dmf_state.specs.Edit.{moved}
use Rattle.dmf_state.proofs.Changing.{within-at}
use Rattle.dmf_state.proofs.ChangedState.{IsState-with_arc, IsState-with_arc_back}
use Rattle.dmf_state.proofs.state.State.change_arc.Goals as goal

pub move_flows-requires-clause-state : goal.move_flows-requires-clause-state
move_flows-requires-clause-state c = λ _.
    let cap = ap (λ (a : Arc). a.cap) c.arc.ensures.value in
    IsState-with_arc_back (with_flows c.args.self.now (moved (along c.args.direction c.args.moves.now) c.args.self.now.flows)) c.args.j c.args.arc
    c.arc.ensures.state.network c.requires.state c.requires.is_there c.requires.tail c.requires.head (omega (arith, cap, c.if-arc.true))

pub set_arc-requires-else-arc-clause-state : goal.set_arc-requires-else-arc-clause-state
set_arc-requires-else-arc-clause-state c =
    let cap = ap (λ (a : Arc). a.cap) c.arc.ensures.value in
    let within = within-at c.args.self.now.network.arcs c.args.self.now.flows (c.args.j - 1) c.arc.ensures.state.flow.within in
    IsState-with_arc c.args.self.now c.args.j c.args.arc c.arc.ensures.state c.requires.is_there c.requires.tail c.requires.head c.requires.state.network
    (omega (arith, cap, within, c.if-arc.false))
