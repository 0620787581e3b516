use Rattle.std.proofs.Common.{◌≡◌, true, arith, subst, rules}
use Rattle.dmf_node.specs.Node.{is_node}
use Rattle.dmf_state.specs.Arc.{IsArc, open_arc}
use Rattle.dmf_state.specs.NetworkState.{IsState, with_idle_arc}
use Rattle.dmf_state.proofs.IdleArc.{IsState-idle, IsNode-is_node}
use Rattle.dmf_state.proofs.state.State.new_arc.Goals as goal

pub returns-clause-fits : goal.returns-clause-fits
returns-clause-fits c =
    let tail : is_node c.args.self.now.network.nodes c.args.tail ≡ true = search rules in
    let head : is_node c.args.self.now.network.nodes c.args.head ≡ true = search rules in
    let arc : IsArc c.args.self.now.network.nodes (open_arc c.args.tail c.args.head c.args.cap) =
    record { tail = IsNode-is_node _ _ tail; head = IsNode-is_node _ _ head; closed = λ h. absurd (cc h) } in
    rw c.open.ensures (subst (λ s. IsArc s.network.nodes (open_arc c.args.tail c.args.head c.args.cap)
    → IsState (with_idle_arc s (open_arc c.args.tail c.args.head c.args.cap))) c.self.view_is
    (λ a. IsState-idle _ _ c.self.invariant.state a (omega (arith, c.self.inside.arcs.ok.0)) (omega (arith, c.self.invariant.sum_is))) arc)
