-- What a run of command lines gives, by the bytes that it reads and the bytes that it writes.
-- Public: a public contract says no more than this.
use Rattle.std.specs.Prelude.{◌^◌, ℕ, ◌≡◌, ◌⊎◌, ◌+◌, ◌-◌, ◌<◌, ◌≤◌, List, [], ◌∷◌, ◌++◌, length, take, All, Bool, true, false, ◌||◌, if◌then◌else◌, Option}
use Rattle.std.specs.Prelude.{Result, Ok, Err}
use Rattle.std.specs.Io.KnownBytes.{Consumes, Appends, IsAtEnd}
use Rattle.dmf_history.specs.Timeline.{Timeline}
use Rattle.dmf_streams.specs.declared.fault.Status.{Status}
use Rattle.dmf_streams.specs.declared.fault.Status.TheVariants.{Well, SomeRefused}
use Rattle.dmf_streams.specs.declared.fault.EngineFault.{EngineFault}
use Rattle.dmf_streams.specs.declared.fault.EngineFault.TheVariants as fault
use Rattle.dmf_runs.specs.declared.reply.SolveReply.{SolveReply}
use Rattle.dmf_runs.specs.Streams.{Streams}
use Rattle.dmf_streams.specs.Input.{HasNoLineFeed}
use Rattle.dmf_runs.specs.Line.{with_line_feeds, IsSplit, line_meaning}
use Rattle.dmf_session.specs.Step.{Answers}
use Rattle.dmf_runs.specs.Run.{Answering, HasReply, LineRuns, Runs}

-- a last line, which no line feed ended, if there is one
abbrev pub RestRuns : Bool → Answering → ℕ → Timeline → List ℕ → List ℕ → Bool → Type 0
RestRuns brief Gives number t [] text refused = (text ≡ []) × (refused ≡ false)
RestRuns brief Gives number t (byte ∷ rest) text refused =
    (u : Timeline) × LineRuns brief Gives number t (line_meaning false (byte ∷ rest)) text refused u

-- The run carried out all lines of the text that the reader gave, and wrote this; `refused` says whether a line was refused.
pub record RunsAll (brief : Bool) (Gives : Answering) (t : Timeline) (given text : List ℕ) (refused : Bool) : Type 0 where
  pub lines : List (List ℕ)
  pub rest : List ℕ
  pub split : IsSplit given lines rest
  pub between : Timeline
  pub first : List ℕ
  pub here : Bool
  pub last : List ℕ
  pub later : Bool
  pub runs : Runs brief Gives 1 t lines first here between
  pub rest_runs : RestRuns brief Gives (length lines + 1) between rest last later
  pub text_is : text ≡ first ++ last
  pub refused_is : refused ≡ (here || later)

-- The run carried out just the lines of this text that a line feed ended, and wrote this.
pub record RunsEndedLines (wanted : SolveReply) (t : Timeline) (given text : List ℕ) : Type 0 where
  pub lines : List (List ℕ)
  pub rest : List ℕ
  pub split : IsSplit given lines rest
  pub refused : Bool
  pub after : Timeline
  pub runs : Runs wanted.brief (Answers wanted.cut) 1 t lines text refused after

-- There is a last line, and it has a reply. It is the rest, which no line feed ended, or if that is empty the last of the lines.
abbrev pub LastHasReply : List (List ℕ) → List ℕ → Type 0
LastHasReply lines [] =
    (before : List (List ℕ)) × (line : List ℕ) × (lines ≡ before ++ line ∷ []) × HasReply (line_meaning true line)
LastHasReply lines (byte ∷ rest) = HasReply (line_meaning false (byte ∷ rest))

-- The run carried out the first lines of this text, and wrote a prefix of what they write. The last of them has a reply, so neither a
-- blank line nor a comment made the writer fail. A line feed ended it, or it is the last line of all, and the reader is at its end.
pub record RunsFront (wanted : SolveReply) (t : Timeline) (known : Option (List ℕ)) (given text : List ℕ) : Type 0 where
  pub front : List ℕ
  pub behind : List ℕ
  pub given_is : given ≡ front ++ behind
  pub whole : List ℕ
  pub refused : Bool
  pub runs : RunsAll wanted.brief (Answers wanted.cut) t front whole refused
  pub replies : LastHasReply runs.lines runs.rest
  pub ends : (runs.rest ≡ []) ⊎ ((behind ≡ []) × IsAtEnd known)
  pub rest : List ℕ
  pub text_is : whole ≡ text ++ rest

-- The run carried out just the lines of this text that end within the limits, and wrote this. There are 1,000,000 of them and one byte
-- more, or the bytes up to the limit do not end the next line.
pub record RunsWithin (wanted : SolveReply) (t : Timeline) (given text : List ℕ) : Type 0 where
  pub lines : List (List ℕ)
  pub rest : List ℕ
  pub given_is : given ≡ with_line_feeds lines ++ rest
  pub each : All HasNoLineFeed lines
  pub at_most_lines : length lines ≤ 1000000
  pub at_most_bytes : length (with_line_feeds lines) ≤ 2 ^ 30
  pub past : ((length lines ≡ 1000000) × (0 < length rest))
      ⊎ ((2 ^ 30 < length given) × HasNoLineFeed (take (2 ^ 30 - length (with_line_feeds lines)) rest))
  pub refused : Bool
  pub after : Timeline
  pub runs : Runs wanted.brief (Answers wanted.cut) 1 t lines text refused after

-- The status says whether a line was refused.
abbrev pub status_if : Bool → Status
status_if refused = if refused then SomeRefused else Well

-- Neither stream failed.
pub record NoneFailed (old new : Streams) : Type 0 where
  pub reader : new.reader.has_failed ≡ old.reader.has_failed
  pub writer : new.writer.has_failed ≡ old.writer.has_failed

-- the number of these lines, with a rest that no line feed ended
abbrev pub line_count : List (List ℕ) → List ℕ → ℕ
line_count lines [] = length lines
line_count lines (byte ∷ rest) = length lines + 1

-- The reader gave all that it had left, and that is within the limits.
pub record IsWithin (new : Streams) (given : List ℕ) (count : ℕ) : Type 0 where
  pub at_end : IsAtEnd new.reader.known
  pub bytes : length given ≤ 2 ^ 30
  pub lines : count ≤ 1000000

-- All lines were carried out, and the status says whether a line was refused.
pub record EndsWell (wanted : SolveReply) (t : Timeline) (old new : Streams) (given written : List ℕ) (status : Status) : Type 0 where
  pub refused : Bool
  pub all : RunsAll wanted.brief (Answers wanted.cut) t given written refused
  pub told : status ≡ status_if refused
  pub within : IsWithin new given (line_count all.lines all.rest)
  pub none_failed : NoneFailed old new

-- A read failed after the lines that were carried out.
pub record EndsUnread (wanted : SolveReply) (t : Timeline) (old new : Streams) (given written : List ℕ) : Type 0 where
  pub lines : RunsEndedLines wanted t given written
  pub reader : new.reader.has_failed ≡ true
  pub writer : new.writer.has_failed ≡ old.writer.has_failed

-- A put or a flush failed in the reply to the last line that was carried out.
pub record EndsUnwritten (wanted : SolveReply) (t : Timeline) (old new : Streams) (given written : List ℕ) : Type 0 where
  pub lines : RunsFront wanted t new.reader.known given written
  pub writer : new.writer.has_failed ≡ true
  pub reader : new.reader.has_failed ≡ old.reader.has_failed

-- The input exceeds a limit.
pub record EndsPast (wanted : SolveReply) (t : Timeline) (old new : Streams) (given written : List ℕ) : Type 0 where
  pub lines : RunsWithin wanted t given written
  pub none_failed : NoneFailed old new

-- the result of a run of command lines that read and wrote these bytes; no other results are possible
abbrev pub Gave : SolveReply → Timeline → Streams → Streams → List ℕ → List ℕ → Result Status EngineFault → Type 0
Gave wanted t old new given written (Ok status) = EndsWell wanted t old new given written status
Gave wanted t old new given written (Err fault.Read) = EndsUnread wanted t old new given written
Gave wanted t old new given written (Err fault.Write) = EndsUnwritten wanted t old new given written
Gave wanted t old new given written (Err fault.TooMuchInput) = EndsPast wanted t old new given written
Gave wanted t old new given written (Err fault) = ⊥

-- A run of command lines from the timeline `t`, with this wanted of its replies to solves: what it read, and what it wrote.
pub record RunsCommandsWith (wanted : SolveReply) (t : Timeline) (old new : Streams) (result : Result Status EngineFault) : Type 0 where
  pub given : List ℕ
  pub written : List ℕ
  pub consumes : Consumes old.reader.known new.reader.known given
  pub appends : Appends old.writer.contents new.writer.contents written
  pub gave : Gave wanted t old new given written result

-- solutions, and a cut after each if it is wanted
abbrev pub solutions : Bool → SolveReply
solutions want_cut = record { cut = want_cut; brief = false }

-- A run of command lines whose replies to solves have solutions. `want_cut` says whether a cut is wanted after each.
abbrev pub RunsCommands : Bool → Timeline → Streams → Streams → Result Status EngineFault → Type 0
RunsCommands want_cut = RunsCommandsWith (solutions want_cut)
