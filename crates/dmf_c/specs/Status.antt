-- The numbers that C gets, under the names that `include/dmf.h` has for them.
-- Public: a public contract says no more than this.
use Rattle.std.specs.Prelude.{ℕ, ◌==◌, IsTrue, List}
use Rattle.std.specs.List.{list_any}

abbrev pub DMF_OK : ℕ
DMF_OK = 0

abbrev pub DMF_NO_MEMORY : ℕ
DMF_NO_MEMORY = 1

abbrev pub DMF_NO_SUCH_NODE : ℕ
DMF_NO_SUCH_NODE = 2

abbrev pub DMF_NO_SUCH_ARC : ℕ
DMF_NO_SUCH_ARC = 3

abbrev pub DMF_CLOSED : ℕ
DMF_CLOSED = 4

abbrev pub DMF_TOO_MANY_ARCS : ℕ
DMF_TOO_MANY_ARCS = 5

abbrev pub DMF_SUM_TOO_LARGE : ℕ
DMF_SUM_TOO_LARGE = 6

abbrev pub DMF_NOTHING_TO_UNDO : ℕ
DMF_NOTHING_TO_UNDO = 7

abbrev pub DMF_NOTHING_TO_REDO : ℕ
DMF_NOTHING_TO_REDO = 8

abbrev pub DMF_NOT_GREATEST : ℕ
DMF_NOT_GREATEST = 9

abbrev pub DMF_BAD_LENGTH : ℕ
DMF_BAD_LENGTH = 10

abbrev pub DMF_BAD_NUMBER : ℕ
DMF_BAD_NUMBER = 11

abbrev pub DMF_BAD_TEXT : ℕ
DMF_BAD_TEXT = 12

abbrev pub DMF_OVER_CAPACITY : ℕ
DMF_OVER_CAPACITY = 13

abbrev pub DMF_NOT_CONSERVED : ℕ
DMF_NOT_CONSERVED = 14

abbrev pub DMF_NEGATIVE : ℕ
DMF_NEGATIVE = 15

abbrev pub DMF_STOPPED : ℕ
DMF_STOPPED = 16

abbrev pub DMF_MAX_PAST : ℕ
DMF_MAX_PAST = 1000000

-- The kinds of commands that `dmf_session_run` carries out, by the same rule.
abbrev pub DMF_COMMAND_CAP : ℕ
DMF_COMMAND_CAP = 1

abbrev pub DMF_COMMAND_ADD : ℕ
DMF_COMMAND_ADD = 2

abbrev pub DMF_COMMAND_CLOSE : ℕ
DMF_COMMAND_CLOSE = 3

abbrev pub DMF_COMMAND_SHUT : ℕ
DMF_COMMAND_SHUT = 4

abbrev pub DMF_COMMAND_SOLVE : ℕ
DMF_COMMAND_SOLVE = 5

abbrev pub DMF_COMMAND_UNDO : ℕ
DMF_COMMAND_UNDO = 6

abbrev pub DMF_COMMAND_REDO : ℕ
DMF_COMMAND_REDO = 7

-- The number is one of these.
abbrev pub IsOneOf : ℕ → List ℕ → Type 0
IsOneOf code codes = IsTrue (list_any (λ c. c == code) codes)
