use Rattle.std.proofs.Common.{◌≡◌, ℕ, ◌+◌, ◌-◌, ◌<◌, ◌≤◌, Result, Ok, Err, arith, sym, ap, ◌∙◌, subst}
use Rattle.std.proofs.lemmas.Bool.{false≢true}
use Rattle.std.specs.Prelude.{◌↔◌, OnOk, IsOk}
use Rattle.dmf_history.specs.Timeline.{Timeline, IsPresent, back}
use Rattle.dmf_session.proofs.session.Session.go_back.Goals as goal

-- the step is not refused if there is a state before this one
one-back : {E : Type 0} (u v : Timeline) (result : Result (Unit {0}) E) → (IsOk result ↔ (0 < u.place)) → OnOk result (v ≡ back u 1) → 0 < u.place
    → v ≡ back u 1
one-back u v (Ok done) is_ok gives some = gives
one-back u v (Err fault) is_ok gives some = absurd (false≢true (is_ok.1 some))

some-before : (t u : Timeline) (done steps : ℕ) → u ≡ back t done → done < steps → steps ≤ t.place → 0 < u.place
some-before t u done steps is more within = omega (arith, ap (λ w. w.place) is)

back-more : (t u : Timeline) (steps : ℕ) → u ≡ back t steps → back u 1 ≡ back t (steps + 1)
back-more t u steps is =
    let place : t.place - steps - 1 ≡ t.place - (steps + 1) = omega arith in
    ap (λ w. back w 1) is ∙ ap (λ place. record { states = t.states; place = place; bound = t.bound }) place

pub loop-preserved : goal.loop-preserved
loop-preserved g c =
    let timeline = g.H.History.timeline in
    let t = timeline c.self.inside.history in
    let u = timeline c.loop.self-inside.history in
    let within = subst (λ h. c.args.steps ≤ (timeline h).place) (sym c.self.view_is) c.requires in
    let some = some-before t u c.loop.counter c.args.steps c.loop.invariant.0 c.loop-test.true within in
    let gives = one-back u (timeline c.undo.new.self) c.undo.result c.undo.ensures.variant c.undo.ensures.ok some in
    (gives ∙ back-more t u c.loop.counter c.loop.invariant.0, λ s present. c.kept_before-kept.ensures s (subst (λ w. IsPresent w s) gives present))
