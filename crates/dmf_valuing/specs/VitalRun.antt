-- What telling the worth of a network's parts gives: the run reads the whole problem, and writes its greatest value and rows.
-- Public: a public contract says no more than this.
use Rattle.std.specs.Prelude.{ℕ, ◌≡◌, List, Result, Ok, Err}
use Rattle.dmf_state.specs.Network.{Network}
use Rattle.dmf_state.specs.NetworkState.{NetworkState}
use Rattle.dmf_text.specs.Streams.{Reader, Writer}
use Rattle.dmf_text.specs.Writing.{Writes}
use Rattle.dmf_streams.specs.declared.fault.Status.{Status}
use Rattle.dmf_streams.specs.declared.fault.EngineFault.{EngineFault}
use Rattle.dmf_streams.specs.declared.fault.EngineFault.TheVariants as fault
use Rattle.dmf_streams.specs.Reading.{HasGiven, ReadsProblem}
use Rattle.dmf_solving.specs.SolveRun.{SolveAnswered}
use Rattle.dmf_vital.specs.GreatestValue.{IsGreatestValue}
use Rattle.dmf_vital.specs.Loss.{TakesFourOfEach}
use Rattle.dmf_valuing.specs.Rows.{AreSecondRows, Row, vital_text}

-- The text stands for a state. The run wrote the greatest value of its network and the rows that are asked for, or a prefix of that if the
-- writer failed.
pub record WritesVital (AreRows : Network → List Row → Type 0) (from to : Reader) (old new : Writer) (text : List ℕ)
    (result : Result Status EngineFault) : Type 0 where
  pub state : NetworkState
  pub problem : ReadsProblem from to text (Ok state)
  pub value : ℕ
  pub greatest : IsGreatestValue state.network value
  pub rows : List Row
  pub are_rows : AreRows state.network rows
  pub writes : Writes old new result (vital_text value rows)

-- A run that writes such rows of a problem, from the bytes that its reader gave to those that its writer took.
abbrev pub RunsVital : (Network → List Row → Type 0) → Reader → Reader → Writer → Writer → Result Status EngineFault → Type 0
RunsVital AreRows from to old new result =
    HasGiven from to (λ text. SolveAnswered (WritesVital AreRows from to old new text) from to old new text result)

-- ---- a run that may find no room

-- The network cannot take four more arcs of the capacity of each of its arcs.
abbrev pub LacksRoom : Network → Type 0
LacksRoom n = TakesFourOfEach n n.arcs → ⊥

-- The text stands for a state of a network that lacks room. The run has written nothing.
pub record StopsForRoom (Lacks : Network → Type 0) (from to : Reader) (old new : Writer) (text : List ℕ) : Type 0 where
  pub state : NetworkState
  pub problem : ReadsProblem from to text (Ok state)
  pub lacks_room : Lacks state.network
  pub untouched : new ≡ old

-- The result of a run that may find no room, and else ends as every run that solves.
abbrev pub RoomAnswered : (Network → Type 0) → (Network → List Row → Type 0) → Reader → Reader → Writer → Writer → List ℕ
    → Result Status EngineFault → Type 0
RoomAnswered Lacks AreRows from to old new text (Err fault.NoRoom) = StopsForRoom Lacks from to old new text
RoomAnswered Lacks AreRows from to old new text result = SolveAnswered (WritesVital AreRows from to old new text) from to old new text result

-- A run that writes such rows of a problem, or finds no room where it lacks it.
abbrev pub RunsVitalIn : (Network → Type 0) → (Network → List Row → Type 0) → Reader → Reader → Writer → Writer → Result Status EngineFault
    → Type 0
RunsVitalIn Lacks AreRows from to old new result = HasGiven from to (λ text. RoomAnswered Lacks AreRows from to old new text result)

-- A run that writes the rows of arcs with second ones beside them.
abbrev pub RunsSecond : Reader → Reader → Writer → Writer → Result Status EngineFault → Type 0
RunsSecond = RunsVitalIn LacksRoom AreSecondRows
