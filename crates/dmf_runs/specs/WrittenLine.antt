-- What carrying out one command line writes.
-- Private: only contracts inside the crate and proofs use this.
use Rattle.std.specs.Prelude.{ℕ, ◌≡◌, List, Bool, true, false, Option, Result, IfOk}
use Rattle.dmf_text.specs.declared.writer.WriteFault.{WriteFault}
use Rattle.dmf_text.specs.Streams.{Writer}
use Rattle.dmf_text.specs.Writing.{Writes}
use Rattle.dmf_session.specs.declared.command.Command.{Command}
use Rattle.dmf_session.specs.declared.command.Refusal.{Refusal}
use Rattle.dmf_history.specs.Timeline.{Timeline}
use Rattle.dmf_session.specs.Step.{Answers}
use Rattle.dmf_runs.specs.declared.reply.Answer.{Answer}
use Rattle.dmf_runs.specs.declared.reply.Answer.TheVariants.{Accepted, Refused}
use Rattle.dmf_runs.specs.declared.reply.SolveReply.{SolveReply}
use Rattle.dmf_runs.specs.Run.{LineRuns}

abbrev pub is_refusal : Answer → Bool
is_refusal Accepted = false
is_refusal Refused = true

-- Carrying out one line with this meaning wrote its text or, if the writer failed, a prefix of it. On success the result says whether
-- the line was refused.
abbrev pub WritesLine : SolveReply → Writer → Writer → ℕ → Timeline → Result (Option Command) Refusal → Timeline → Result Answer WriteFault → Type 0
WritesLine wanted old new number t meaning u result =
    (text : List ℕ) × (refused : Bool) × LineRuns wanted.brief (Answers wanted.cut) number t meaning text refused u
    × Writes old new result text × IfOk result (λ answer. is_refusal answer ≡ refused)
