use Rattle.std.proofs.Common.{◌≡◌}
use Rattle.dmf_history.specs.Timeline.{back}
use Rattle.dmf_session.specs.Kept.{KeepsPresent}
use Rattle.dmf_session.proofs.session.Session.go_back.Given as goal

abbrev pub invariant-loop : goal.invariant-loop
invariant-loop g l =
    let timeline = g.H.History.timeline in
    (timeline l.self-inside.history ≡ back (timeline l.initial.self-inside.history) l.counter)
    × KeepsPresent (timeline l.self-inside.history) l.self-inside.kept
