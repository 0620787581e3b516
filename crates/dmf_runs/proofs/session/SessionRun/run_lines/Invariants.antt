use Rattle.std.proofs.Common.{[]}
use Rattle.dmf_streams.specs.Input.{input_over}
use Rattle.dmf_runs.proofs.Progress.{Progress}
use Rattle.dmf_runs.proofs.session.SessionRun.run_lines.Given as goal

-- the lines before this one were carried out
abbrev pub invariant-loop-number : goal.invariant-loop-number
invariant-loop-number g l =
    let timeline = g.H.History.timeline in
    let reader = g.C.Source.left in
    let writer = g.W.Sink.written in
    Progress l.fn.self.wanted (timeline l.fn.session)
    (input_over (record { bytes = []; count = 0 }) (reader l.fn.commands))
    (input_over l.input (reader l.commands))
    (writer l.fn.out)
    (writer l.out)
    l.number (timeline l.session) l.is_refused
