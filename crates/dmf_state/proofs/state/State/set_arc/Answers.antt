use Rattle.std.proofs.Common.{◌≡◌, ◌-◌, ◌+◌, true, not, ap, arith, sym, ◌∙◌, subst}
use mir.Val.{bool_byte}
use Rattle.dmf_state.specs.contracts.state.State.{the_view}
use Rattle.dmf_state.specs.Network.{arc_number, has_arc}
use Rattle.dmf_state.specs.NetworkState.{IsState}
use Rattle.dmf_state.specs.Totals.{KeepsTotals}
use Rattle.dmf_state.proofs.ChangedState.{with_arc_at, cap-in_sum, KeepsTotals-with_arc}
use Rattle.dmf_state.proofs.state.State.set_arc.Goals as goal
use Rattle.dmf_state.proofs.state.State.set_arc.Goals.{After-arc-old}

-- The arc is there,
has : (c : After-arc-old) → has_arc (the_view c.self.inside).network c.args.j ≡ true
has c = subst (λ u. has_arc u.network c.args.j ≡ true) (sym c.self.view_is) c.requires.is_there

-- this is the arc before,
was : (c : After-arc-old) → c.arc-old.result ≡ arc_number (the_view c.self.inside).network c.args.j
was c = c.arc-old.ensures.value ∙ ap (λ u. arc_number u.network c.args.j) (sym c.self.view_is)

-- and these are the totals with the new arc in its place.
keeps : (c : After-arc-old)
    → KeepsTotals (with_arc_at (the_view c.self.inside) c.args.j c.args.arc) (c.self.inside.capacities - c.arc-old.result.cap + c.args.arc.cap)
    c.self.inside.at_source (c.self.inside.open_arcs - bool_byte (not c.arc-old.result.closed) + bool_byte (not c.args.arc.closed))
keeps c =
    let tail = subst (λ u. c.args.arc.tail ≡ (arc_number u.network c.args.j).tail) (sym c.self.view_is) c.requires.tail in
    let head = subst (λ u. c.args.arc.head ≡ (arc_number u.network c.args.j).head) (sym c.self.view_is) c.requires.head in
    let state = subst (λ u. IsState (with_arc_at u c.args.j c.args.arc)) (sym c.self.view_is) c.requires.state in
    rw (was c) (KeepsTotals-with_arc (the_view c.self.inside) c.args.j c.args.arc _ _ _ c.self.invariant (has c) tail head state)

pub overflow_sub-self : goal.overflow_sub-self
overflow_sub-self c =
    let at = (goal.at.overflow_sub-self c).After-arc-old in
    rw (was at) (cap-in_sum (the_view c.self.inside) c.args.j _ _ _ c.self.invariant (has at))

pub overflow_add-self : goal.overflow_add-self
overflow_add-self c =
    let after = keeps (goal.at.overflow_add-self c).After-arc-old in
    omega (arith, after.sum_is, after.state.network.capacities)

pub invariant_of-self : goal.invariant_of-self
invariant_of-self c = rw (c.from.ensures, c.from-2.ensures) (keeps (goal.at.invariant_of-self c).After-arc-old)
