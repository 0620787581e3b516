use Rattle.std.proofs.Common.{◌+◌, arith, sym, subst}
use Rattle.dmf_state.specs.contracts.state.State.{the_view}
use Rattle.dmf_state.specs.NetworkState.{IsState, with_idle_arc}
use Rattle.dmf_state.specs.Totals.{KeepsTotals}
use Rattle.dmf_state.proofs.IdleArc.{KeepsTotals-idle}
use Rattle.dmf_state.proofs.state.State.append.Goals as goal
use Rattle.dmf_state.proofs.state.State.append.Goals.{After-self}

-- the totals with the new arc
keeps : (c : After-self)
    → KeepsTotals (with_idle_arc (the_view c.self.inside) c.args.arc) (c.self.inside.capacities + c.args.arc.cap) c.self.inside.at_source
    (c.self.inside.open_arcs + 1)
keeps c =
    let state = subst (λ s. IsState (with_idle_arc s c.args.arc)) (sym c.self.view_is) c.requires.fits in
    KeepsTotals-idle (the_view c.self.inside) c.args.arc _ _ _ c.self.invariant c.requires.open state

pub overflow_add-self : goal.overflow_add-self
overflow_add-self c =
    let after = keeps (goal.at.overflow_add-self c).After-self in
    omega (arith, after.sum_is, after.state.network.capacities)

pub invariant_of-self-2 : goal.invariant_of-self-2
invariant_of-self-2 c =
    rw (c.push_reserved.ensures.items, c.push_reserved-2.ensures.items, c.reserve_one.ensures.arcs, c.reserve_one.ensures.flows)
    (keeps (goal.at.invariant_of-self-2 c).After-self)
