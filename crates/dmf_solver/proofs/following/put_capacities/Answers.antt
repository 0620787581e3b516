use Rattle.std.proofs.Common.{get_or, drop, refl, sym, subst, ◌≡◌, ◌+◌}
use Rattle.dmf_state.specs.Direction.{edited_along}
use Rattle.dmf_solver.specs.ResidualNetwork.{residual_search}
use Rattle.dmf_state.proofs.ChangedArc.{has_arc-within}
use Rattle.dmf_state.proofs.ClosedArcs.{no_shutting, left-next, HasArcs}
use Rattle.dmf_solver.proofs.kept.Followed.{cap-along, close-along, has-along, recapped_arcs, shut-next}
use Rattle.dmf_solver.proofs.following.put_capacities.Goals as goal

pub returns-in-Cap : goal.returns-in-Cap
returns-in-Cap c = λ flows same.
    let d = c.args.direction in
    let s = c.args.state.now in
    let has = subst (λ e. HasArcs s.network (recapped_arcs e)) c.in-Cap.is (has-along d c.args.edit.now s c.requires.adds_none c.requires.fits) in
    subst (λ e. c.put_capacity.new.search ≡ residual_search (edited_along d e s).network flows) (sym c.in-Cap.is)
    (cap-along d s flows c.in-Cap.arc c.in-Cap.old c.in-Cap.new c.in-Cap.moves c.args.search.now c.put_capacity.new.search c.requires.one_each
    (has_arc-within s.network c.in-Cap.arc has.0).1 (rw c.cap.ensures at c.put_capacity.ensures) same)

pub returns-in-Close : goal.returns-in-Close
returns-in-Close c = λ flows same.
    let d = c.args.direction in
    let s = c.args.state.now in
    let has = subst (λ e. HasArcs s.network (recapped_arcs e)) c.in-Close.is (has-along d c.args.edit.now s c.requires.adds_none c.requires.fits) in
    subst (λ e. c.put_capacity-in-Close.new.search ≡ residual_search (edited_along d e s).network flows) (sym c.in-Close.is)
    (close-along d s flows c.in-Close.arc c.in-Close.old c.in-Close.moves c.args.search.now c.put_capacity-in-Close.new.search c.requires.one_each
    (has_arc-within s.network c.in-Close.arc has.0).1 (rw c.cap-in-Close.ensures at c.put_capacity-in-Close.ensures) same)

pub loop-shutting-init : goal.loop-shutting-init
loop-shutting-init c =
    let d = c.args.direction in
    let s = c.args.state.now in
    record {
      now = s.network;
      has = rw c.deref-shutting-items.ensures.value (subst (λ e. HasArcs s.network (recapped_arcs e)) c.in-Shut.is
          (has-along d c.args.edit.now s c.requires.adds_none c.requires.fits));
      leads = refl;
      one_each = c.requires.one_each;
      is = λ flows same. same;
    }

pub loop-shutting-preserved : goal.loop-shutting-preserved
loop-shutting-preserved c =
    let arcs = c.deref-shutting-items.result.now in
    let i = c.loop-shutting.shutting-index in
    shut-next c.args.direction _ _ (get_or arcs i no_shutting) (drop (i + 1) arcs) (drop i arcs) _ _ _
    (left-next arcs i c.loop-shutting-test.true) c.loop-shutting.invariant (rw c.cap-in-loop-shutting.ensures at c.put_capacity-in-loop-shutting.ensures)
