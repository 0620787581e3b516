use Rattle.std.proofs.Common.{◌≡◌}
use Rattle.dmf_history.specs.Timeline.{forward}
use Rattle.dmf_session.proofs.session.Session.redo.Given as goal

abbrev pub invariant-loop-taken : goal.invariant-loop-taken
invariant-loop-taken g l = let timeline = g.H.History.timeline in timeline l.self ≡ forward (timeline l.fn.self) l.taken
