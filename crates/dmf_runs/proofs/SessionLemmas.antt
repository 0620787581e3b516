-- The answer of a session whose problem was read, and of one that stops while it reads the problem.
use Rattle.std.proofs.Common.{◌≡◌, ℕ, List, Ok, Err, Result, inl, inr}
use Rattle.dmf_streams.specs.declared.fault.Status.{Status}
use Rattle.dmf_streams.specs.declared.fault.EngineFault.{EngineFault}
use Rattle.dmf_streams.specs.declared.fault.EngineFault.TheVariants as fault
use Rattle.dmf_runs.specs.declared.reply.SolveReply.{SolveReply}
use Rattle.dmf_text.specs.Streams.{Reader}
use Rattle.dmf_runs.specs.Streams.{Streams}
use Rattle.dmf_streams.specs.Reading.{ReadsProblem}
use Rattle.dmf_runs.specs.Session.{RunsOn, SessionAnswered}

-- A session whose problem was read answers as its run does.
pub answered-by_run : (wanted : SolveReply) (bound : ℕ) (from to : Reader) (old new : Streams) (text : List ℕ) (result : Result Status EngineFault)
    → RunsOn wanted bound from to old new text result → SessionAnswered wanted bound from to old new text result
answered-by_run wanted bound from to old new text (Ok status) r = r
answered-by_run wanted bound from to old new text (Err fault.Write) r = r
answered-by_run wanted bound from to old new text (Err fault.NoMemory) r = absurd r.runs.gave
answered-by_run wanted bound from to old new text (Err told) r = inr r

-- One whose problem was not read answers with the fault.
pub answered-unread : (wanted : SolveReply) (bound : ℕ) (from to : Reader) (old new : Streams) (text : List ℕ) (told : EngineFault)
    → ReadsProblem from to text (Err told) → new ≡ old → SessionAnswered wanted bound from to old new text (Err told)
answered-unread wanted bound from to old new text fault.Write read untouched = absurd read
answered-unread wanted bound from to old new text (fault.Solution f) read untouched = absurd read
answered-unread wanted bound from to old new text fault.NoMemory read untouched = (untouched, read)
answered-unread wanted bound from to old new text told read untouched = inl (read, untouched)
