-- How a run ends that may find no room, or never does.
use Rattle.std.proofs.Common.{List, Result, Ok, Err, ℕ}
use Rattle.dmf_state.specs.Network.{Network}
use Rattle.dmf_text.specs.Streams.{Reader, Writer}
use Rattle.dmf_streams.specs.declared.fault.Status.{Status}
use Rattle.dmf_streams.specs.declared.fault.EngineFault.{EngineFault}
use Rattle.dmf_streams.specs.declared.fault.EngineFault.TheVariants as fault
use Rattle.dmf_streams.proofs.Giving.{given}
use Rattle.dmf_solving.specs.SolveRun.{SolveAnswered}
use Rattle.dmf_valuing.specs.Rows.{Row}
use Rattle.dmf_valuing.specs.VitalRun.{RoomAnswered, RunsVital, RunsVitalIn, WritesVital}

-- A run that never lacks room ends as every run that solves.
answered : (AreRows : Network → List Row → Type 0) (from to : Reader) (old new : Writer) (text : List ℕ) (result : Result Status EngineFault)
    → RoomAnswered (λ n. ⊥) AreRows from to old new text result → SolveAnswered (WritesVital AreRows from to old new text) from to old new text result
answered AreRows from to old new text (Ok status) is = is
answered AreRows from to old new text (Err fault.Read) is = is
answered AreRows from to old new text (Err fault.Write) is = is
answered AreRows from to old new text (Err (fault.Problem found)) is = is
answered AreRows from to old new text (Err (fault.Solution found)) is = is
answered AreRows from to old new text (Err fault.NoMemory) is = is
answered AreRows from to old new text (Err fault.TooMuchInput) is = is
answered AreRows from to old new text (Err fault.NoRoom) is = absurd is.lacks_room

pub never-short : (AreRows : Network → List Row → Type 0) (from to : Reader) (old new : Writer) (result : Result Status EngineFault)
    → RunsVitalIn (λ n. ⊥) AreRows from to old new result → RunsVital AreRows from to old new result
never-short AreRows from to old new result runs = given runs (λ text is. answered AreRows from to old new text result is)
