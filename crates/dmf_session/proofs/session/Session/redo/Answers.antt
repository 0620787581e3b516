use Rattle.std.proofs.Common.{◌≡◌, ℕ, ◌+◌, ◌-◌, ◌<◌, ◌≤◌, Result, Err, arith, refl, ap, ◌∙◌, subst}
use Rattle.std.specs.Prelude.{◌↔◌}
use Rattle.dmf_history.specs.declared.history.RedoFault.{RedoFault}
use Rattle.dmf_history.specs.declared.history.RedoFault.TheVariants as redo
use Rattle.dmf_history.specs.Timeline.{Timeline, future_of, back, forward, AddsArcs}
use Rattle.dmf_session.proofs.session.Session.redo.Goals as goal

-- a step forward that is refused, although some state is past the present one, leads to added arcs
adds-there : (t u : Timeline) (taken steps : ℕ) (fault : RedoFault) (result : Result (Unit {0}) RedoFault) → result ≡ Err fault → u ≡ forward t taken
    → taken < steps → steps ≤ future_of t → ((result ≡ Err redo.NothingToRedo) ↔ (future_of u ≡ 0)) → (result ≡ Err redo.NoMemory → AddsArcs u u.place)
    → AddsArcs t (t.place + taken)
adds-there t u taken steps redo.NothingToRedo result told is more within last memory = absurd (omega (arith, ap future_of is, last.0 told, more, within))
adds-there t u taken steps redo.NoMemory result told is more within last memory =
    let adds = subst (λ w. AddsArcs w w.place) is (memory told) in
    record { before = adds.before; after = adds.after; before_is = adds.before_is; after_is = adds.after_is; more = adds.more }

-- so many steps forward, and back again
back-forward : (t : Timeline) (steps : ℕ) → back (forward t steps) steps ≡ t
back-forward t steps =
    let place : t.place + steps - steps ≡ t.place = omega arith in
    ap (λ place. record { states = t.states; place = place; bound = t.bound }) place

pub returns-in-Err : goal.returns-in-Err
returns-in-Err g c want_cut =
    let timeline = g.H.History.timeline in
    let t = timeline c.args.self.now in
    let taken = c.loop-taken.taken in
    let within : c.args.steps ≤ future_of t = omega (arith, c.if-steps-from.false, c.from.ensures, c.future.ensures.count) in
    let more : taken < c.args.steps = omega (arith, c.loop-taken-test.true) in
    let is = c.loop-taken.invariant in
    let adds = adds-there t (timeline c.loop-taken.self) taken c.args.steps c.in-Err.field-0 _ refl is more within c.in-Err.ensures.last c.in-Err.ensures.memory
    in
    ((within, taken, more, adds), c.go_back.ensures ∙ ap (λ w. back w taken) (c.in-Err.ensures.err ∙ is) ∙ back-forward t taken)
