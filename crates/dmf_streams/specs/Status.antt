-- The status of the program, by the result of its run.
-- Public: a public contract says no more than this.
use Rattle.std.specs.Prelude.{ℕ, Result, Ok, Err}
use Rattle.dmf_streams.specs.declared.fault.Status.{Status}
use Rattle.dmf_streams.specs.declared.fault.Status.TheVariants.{Well, SomeRefused, NotGreatest}
use Rattle.dmf_streams.specs.declared.fault.EngineFault.{EngineFault}
use Rattle.dmf_streams.specs.declared.fault.EngineFault.TheVariants.{Read, Write, Problem, Solution, NoMemory, TooMuchInput, NoRoom}

abbrev pub status_of : Result Status EngineFault → ℕ
status_of (Ok Well) = 0
status_of (Ok SomeRefused) = 1
status_of (Ok NotGreatest) = 1
status_of (Err (Problem fault)) = 3
status_of (Err (Solution fault)) = 3
status_of (Err Read) = 4
status_of (Err Write) = 4
status_of (Err TooMuchInput) = 4
status_of (Err NoRoom) = 4
status_of (Err NoMemory) = 5
