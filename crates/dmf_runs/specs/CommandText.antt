-- What a command line means, and the word of a command.
-- Public: a public contract says no more than this.
use Rattle.std.specs.Prelude.{ℕ, List, [], ◌∷◌, if◌then◌else◌, codes, Option, Some, None, Result, Ok, Err}
use Rattle.std.specs.Str.{bytes_eq}
use Rattle.dmf_text.specs.declared.digits.NumberFault.{NumberFault}
use Rattle.dmf_text.specs.declared.digits.NumberFault.TheVariants as digits
use Rattle.dmf_text.specs.Fields.{fields}
use Rattle.dmf_text.specs.Number.{number_of}
use Rattle.dmf_session.specs.declared.command.Command.{Command}
use Rattle.dmf_session.specs.declared.command.Command.TheVariants.{Cap, Add, Close, Shut, Solve, Undo, Redo, PrintProblem, PrintFlow, PrintCut}
use Rattle.dmf_session.specs.declared.command.Refusal.{Refusal}
use Rattle.dmf_session.specs.declared.command.Refusal.TheVariants.{UnknownCommand, FieldCount, NotANumber, TooLarge}

-- what follows from the number that a field spells, or why it spells none
abbrev pub with_number : {X : Type 0} → Result ℕ NumberFault → (ℕ → Result X Refusal) → Result X Refusal
with_number (Ok n) next = next n
with_number (Err digits.NotANumber) next = Err NotANumber
with_number (Err digits.TooLarge) next = Err TooLarge

-- `I U`, the fields after `cap`
unfoldable pub capping : List (List ℕ) → Result Command Refusal
capping (arc ∷ cap ∷ []) = with_number (number_of arc) (λ arc. with_number (number_of cap) (λ cap. Ok (Cap arc cap)))
capping fields = Err FieldCount

-- `V W U`, the fields after `add`
unfoldable pub addition : List (List ℕ) → Result Command Refusal
addition (tail ∷ head ∷ cap ∷ []) =
    with_number (number_of tail) (λ tail.
    with_number (number_of head) (λ head. with_number (number_of cap) (λ cap. Ok (Add tail head cap))))
addition fields = Err FieldCount

-- `I`, the field after `close`, or `V`, the field after `shut`
unfoldable pub one_number : List (List ℕ) → Result ℕ Refusal
one_number (field ∷ []) = with_number (number_of field) (λ n. Ok n)
one_number fields = Err FieldCount

-- no fields, as after `solve`
unfoldable pub solving : List (List ℕ) → Result Command Refusal
solving [] = Ok Solve
solving fields = Err FieldCount

-- no field or `K`, the fields after `undo` and `redo`
unfoldable pub steps : List (List ℕ) → Result ℕ Refusal
steps [] = Ok 1
steps (count ∷ []) = with_number (number_of count) (λ n. Ok n)
steps (count ∷ field ∷ fields) = Err FieldCount

-- what to print, the field after `print`
unfoldable pub printing : List (List ℕ) → Result Command Refusal
printing (what ∷ []) =
    if bytes_eq what (codes "problem") then Ok PrintProblem
    else if bytes_eq what (codes "flow") then Ok PrintFlow
    else if bytes_eq what (codes "cut") then Ok PrintCut
    else Err UnknownCommand
printing fields = Err FieldCount

-- a command, by what its fields say
abbrev pub command_by : {X : Type 0} → (X → Command) → Result X Refusal → Result (Option Command) Refusal
command_by command (Ok x) = Ok (Some (command x))
command_by command (Err refusal) = Err refusal

-- What a line means that asks for no change. Its first field is neither `c` nor the word of a change; the other fields follow.
abbrev pub meaning_of_other : List ℕ → List (List ℕ) → Result (Option Command) Refusal
meaning_of_other word behind =
    if bytes_eq word (codes "solve") then command_by (λ command. command) (solving behind)
    else if bytes_eq word (codes "undo") then command_by Undo (steps behind)
    else if bytes_eq word (codes "redo") then command_by Redo (steps behind)
    else if bytes_eq word (codes "print") then command_by (λ command. command) (printing behind)
    else Err UnknownCommand

-- A line without fields is blank, and a line whose first field is `c` is a comment: they mean nothing.
abbrev pub meaning_of : List (List ℕ) → Result (Option Command) Refusal
meaning_of [] = Ok None
meaning_of (word ∷ behind) =
    if bytes_eq word (codes "c") then Ok None
    else if bytes_eq word (codes "cap") then command_by (λ command. command) (capping behind)
    else if bytes_eq word (codes "add") then command_by (λ command. command) (addition behind)
    else if bytes_eq word (codes "close") then command_by Close (one_number behind)
    else if bytes_eq word (codes "shut") then command_by Shut (one_number behind)
    else meaning_of_other word behind

-- what a line means, without its line end: nothing, a command, or why it is refused
abbrev pub command_of : List ℕ → Result (Option Command) Refusal
command_of line = meaning_of (fields line)

-- the word of a command, which is the first field of its lines
abbrev pub word_of : Command → List ℕ
word_of (Cap arc cap) = codes "cap"
word_of (Add tail head cap) = codes "add"
word_of (Close arc) = codes "close"
word_of (Shut node) = codes "shut"
word_of Solve = codes "solve"
word_of (Undo steps) = codes "undo"
word_of (Redo steps) = codes "redo"
word_of PrintProblem = codes "print"
word_of PrintFlow = codes "print"
word_of PrintCut = codes "print"
