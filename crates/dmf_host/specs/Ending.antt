-- The exit status of the program.
-- Public: a public contract says no more than this.
use Rattle.std.specs.Prelude.{ℕ, ◌≡◌, ◌⊎◌, Result, Ok, Err}
use Rattle.std.specs.declared.io.ErrorKind.{ErrorKind}
use Rattle.std.specs.declared.io.ErrorKind.TheVariants as kinds
use Rattle.dmf_streams.specs.declared.fault.Status.{Status}
use Rattle.dmf_streams.specs.declared.fault.EngineFault.TheVariants as engine
use Rattle.dmf_streams.specs.Status.{status_of}
use Rattle.dmf_host.specs.declared.fault.Fault.{Fault}
use Rattle.dmf_host.specs.declared.fault.Fault.TheVariants.{Usage, Words, Open, Run}

-- 2 for words that the program does not take, 4 if the problem cannot be opened, and else the status of the run
abbrev pub exit_status : Result Status Fault → ℕ
exit_status (Ok status) = status_of (Ok status)
exit_status (Err Usage) = 2
exit_status (Err Words) = 2
exit_status (Err Open) = 4
exit_status (Err (Run fault)) = status_of (Err fault)

-- the problem's file cannot be opened, or is too long to be read: the exit status is 4
abbrev pub IsUnopened : Fault → Type 0
IsUnopened fault = (fault ≡ Open) ⊎ (fault ≡ Run engine.TooMuchInput)

-- memory was refused before a run
abbrev pub no_memory : Fault
no_memory = Run engine.NoMemory

-- why the program's words cannot be read, by the kind of the system's error: one of them is not UTF-8, or memory was refused
abbrev pub unread : ErrorKind → Fault
unread kinds.OutOfMemory = no_memory
unread _ = Words

-- the words cannot be read: the exit status is 2, or 5 if memory was refused
abbrev pub IsUnread : Fault → Type 0
IsUnread fault = (fault ≡ Words) ⊎ (fault ≡ no_memory)
