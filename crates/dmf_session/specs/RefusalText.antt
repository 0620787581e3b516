-- The text about a refused command.
-- Public: a public contract says no more than this.
use Rattle.std.specs.Prelude.{ℕ, List, codes}
use Rattle.dmf_session.specs.declared.command.Refusal.{Refusal}
use Rattle.dmf_session.specs.declared.command.Refusal.TheVariants.{UnknownCommand, FieldCount, NotANumber, TooLarge, NoSuchArc, Closed, NoSuchNode, TooManyArcs}
use Rattle.dmf_session.specs.declared.command.Refusal.TheVariants.{SumTooLarge, NothingToUndo, NothingToRedo, NotGreatest, NoMemory, LineTooLong}

abbrev pub refusal_text : Refusal → List ℕ
refusal_text UnknownCommand = codes "unknown command"
refusal_text FieldCount = codes "wrong number of fields"
refusal_text NotANumber = codes "not a number"
refusal_text TooLarge = codes "number too large"
refusal_text NoSuchArc = codes "no such arc"
refusal_text Closed = codes "arc is closed"
refusal_text NoSuchNode = codes "no such node"
refusal_text TooManyArcs = codes "too many arcs"
refusal_text SumTooLarge = codes "capacities past 64 bits"
refusal_text NothingToUndo = codes "nothing to undo"
refusal_text NothingToRedo = codes "nothing to redo"
refusal_text NotGreatest = codes "flow is not greatest"
refusal_text NoMemory = codes "no memory"
refusal_text LineTooLong = codes "line too long"
