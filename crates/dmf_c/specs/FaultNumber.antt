-- The number of a fault of a problem text, as `enum dmf_fault` of the header has it.
-- Public: a public contract says no more than this.
use Rattle.std.specs.Prelude.{ℕ}
use Rattle.dmf_text.specs.declared.fault.ProblemFaultKind.{ProblemFaultKind}
use Rattle.dmf_text.specs.declared.fault.ProblemFaultKind.TheVariants.{ProblemLineExpected, SecondProblemLine, UnknownLine, NotMax, FieldCount, NotANumber}
use Rattle.dmf_text.specs.declared.fault.ProblemFaultKind.TheVariants.{TooLarge, CountOutOfRange, NodeOutOfRange, NotSourceOrSink, SecondTerminal, SameTerminals}
use Rattle.dmf_text.specs.declared.fault.ProblemFaultKind.TheVariants.{ArcBeforeTerminals, TooManyArcs, TooFewArcs, TerminalMissing, SumTooLarge, NoMemory}

abbrev pub fault_number : ProblemFaultKind → ℕ
fault_number ProblemLineExpected = 1
fault_number SecondProblemLine = 2
fault_number UnknownLine = 3
fault_number NotMax = 4
fault_number FieldCount = 5
fault_number NotANumber = 6
fault_number TooLarge = 7
fault_number CountOutOfRange = 8
fault_number NodeOutOfRange = 9
fault_number NotSourceOrSink = 10
fault_number SecondTerminal = 11
fault_number SameTerminals = 12
fault_number ArcBeforeTerminals = 13
fault_number TooManyArcs = 14
fault_number TooFewArcs = 15
fault_number TerminalMissing = 16
fault_number SumTooLarge = 17
fault_number NoMemory = 18
