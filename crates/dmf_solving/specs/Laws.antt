-- What a solving run writes is the solution of an optimal state.
-- Public: a public contract says no more than this.
use Rattle.std.specs.Prelude.{ℕ, List, Bool, Result}
use Rattle.dmf_solver.specs.Optimal.{IsOptimal}
use Rattle.dmf_text.specs.Streams.{Reader, Writer}
use Rattle.dmf_streams.specs.declared.fault.Status.{Status}
use Rattle.dmf_streams.specs.declared.fault.EngineFault.{EngineFault}
use Rattle.dmf_solving.specs.SolveRun.{WritesSolved, WritesValue, WritesAny}

-- Where a run that solves a problem writes a solution, it is that of an optimal state.
abbrev pub WrittenIsOptimal : Type 0
WrittenIsOptimal =
    (want_cut : Bool) (from to : Reader) (old new : Writer) (text : List ℕ) (result : Result Status EngineFault)
    → (run : WritesSolved want_cut from to old new text result) → IsOptimal run.solved

-- Where a run that solves a problem for its value writes one, it is that of an optimal state.
abbrev pub ValueIsOptimal : Type 0
ValueIsOptimal =
    (want_cut : Bool) (from to : Reader) (old new : Writer) (text : List ℕ) (result : Result Status EngineFault)
    → (run : WritesValue want_cut from to old new text result) → IsOptimal run.solved

-- Where a run that solves a problem by any greatest flow writes a solution, it is that of an optimal state.
abbrev pub AnyIsOptimal : Type 0
AnyIsOptimal =
    (want_cut : Bool) (from to : Reader) (old new : Writer) (text : List ℕ) (result : Result Status EngineFault)
    → (run : WritesAny want_cut from to old new text result) → IsOptimal run.solved
