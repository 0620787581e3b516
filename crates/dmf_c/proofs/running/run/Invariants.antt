use Rattle.dmf_c.specs.Running.{commands_of}
use Rattle.dmf_c.proofs.Batches.{HasRunTo}
use Rattle.dmf_c.proofs.running.run.Given as goal

-- the commands before the index are carried out
abbrev pub invariant-loop-i : goal.invariant-loop-i
invariant-loop-i l = HasRunTo l.fn.plan (commands_of l.kinds l.firsts l.seconds l.thirds) l.i l.plan l.fn.values l.values
