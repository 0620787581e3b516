-- How a command text is split into lines, and what a line means.
-- Public: a public contract says no more than this.
use Rattle.std.specs.Prelude.{ℕ, ◌≡◌, List, [], ◌∷◌, ◌++◌, length, nat_lt, if◌then◌else◌, All, Bool, Option, Result, Err}
use Rattle.std.specs.List.{flat_map}
use Rattle.std.specs.Str.Lines.{strip_carriage_return}
use Rattle.dmf_session.specs.declared.command.Command.{Command}
use Rattle.dmf_session.specs.declared.command.Refusal.{Refusal}
use Rattle.dmf_session.specs.declared.command.Refusal.TheVariants.{LineTooLong}
use Rattle.dmf_streams.specs.Input.{HasNoLineFeed}
use Rattle.dmf_streams.specs.KeptLine.{Kept, IsKept}
use Rattle.dmf_runs.specs.CommandText.{command_of}

-- the bytes of lines of which each is ended by a line feed
abbrev pub with_line_feeds : List (List ℕ) → List ℕ
with_line_feeds lines = flat_map (λ line. line ++ 10 ∷ []) lines

-- The text is these lines, each ended by a line feed, and a rest without one.
pub record IsSplit (text : List ℕ) (lines : List (List ℕ)) (rest : List ℕ) : Type 0 where
  pub whole : text ≡ with_line_feeds lines ++ rest
  pub each : All HasNoLineFeed lines
  pub last : HasNoLineFeed rest

-- What a line means: these are the bytes before its line feed, if it has one. A carriage return directly before the line feed counts
-- toward the line's length, and belongs to none of its fields.
abbrev pub line_meaning : Bool → List ℕ → Result (Option Command) Refusal
line_meaning ended line =
    if nat_lt 4096 (length line) then Err LineTooLong
    else command_of (if ended then strip_carriage_return line else line)

-- A line of which this is kept, and which a line feed ended or not, means this.
abbrev pub Means : Kept → Bool → Result (Option Command) Refusal → Type 0
Means kept ended meaning = (line : List ℕ) → IsKept kept line → meaning ≡ line_meaning ended line
