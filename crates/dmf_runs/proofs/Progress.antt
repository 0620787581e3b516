-- A run of command lines, up to some line, and its end.
use Rattle.std.proofs.Common.{ℕ, ◌≡◌, ◌+◌, List, [], ◌∷◌, ◌++◌, length, Bool, true, false, ◌||◌, Option, Result, refl, ap, ◌∙◌, arith, append-nil}
use Rattle.std.specs.List.{All}
use Rattle.std.specs.Io.KnownBytes.{Appends}
use Rattle.std.proofs.KnownBytes.{Consumes-nil, Appends-nil, Appends-trans}
use Rattle.std.proofs.lemmas.Grind.{flat_map-append}
use Rattle.std.proofs.lemmas.List.{length_push}
use Rattle.std.proofs.lemmas.List.Elements.{All-push, All-nil}
use Rattle.dmf_session.specs.declared.command.Command.{Command}
use Rattle.dmf_session.specs.declared.command.Refusal.{Refusal}
use Rattle.dmf_session.specs.Step.{Answers}
use Rattle.dmf_history.specs.Timeline.{Timeline}
use Rattle.dmf_runs.specs.declared.reply.SolveReply.{SolveReply}
use Rattle.dmf_text.specs.Streams.{Writer}
use Rattle.dmf_runs.specs.Streams.{Streams}
use Rattle.dmf_streams.specs.KeptLine.{Kept}
use Rattle.dmf_runs.specs.Line.{Means, with_line_feeds}
use Rattle.dmf_streams.specs.Input.{HasNoLineFeed, InputState, TakesBytes, TakesLine, left}
use Rattle.dmf_runs.specs.Run.{LineRuns, Runs}
use Rattle.dmf_streams.proofs.TakingLemmas.{Takes-trans}
use Rattle.dmf_runs.proofs.LineLemmas.{Runs-push}

-- the reader of an input, and a writer
abbrev pub streams : InputState → Writer → Streams
streams input writer = record { reader = input.reader; writer = writer }

-- an input from which nothing was taken yet
pub record IsFresh (input : InputState) : Type 0 where
  pub none_pending : input.pending.bytes ≡ []
  pub none_taken : input.pending.count ≡ 0

-- The lines so far were carried out from the timeline `t`, and `u` is the timeline now.
pub record Progress (wanted : SolveReply) (t : Timeline) (before now : InputState) (held holds : Writer) (number : ℕ) (u : Timeline)
    (is_refused : Bool) : Type 0 where
  pub fresh : IsFresh before
  pub lines : List (List ℕ)
  pub each : All HasNoLineFeed lines
  pub counted : length lines + 1 ≡ number
  pub takes : TakesBytes before now (with_line_feeds lines)
  pub reader : now.reader.has_failed ≡ before.reader.has_failed
  pub written : List ℕ
  pub appends : Appends held.contents holds.contents written
  pub writer : holds.has_failed ≡ held.has_failed
  pub runs : Runs wanted.brief (Answers wanted.cut) 1 t lines written is_refused u

-- At first none was carried out.
pub Progress-none : (wanted : SolveReply) (t : Timeline) (input : InputState) (held : Writer) → IsFresh input
    → Progress wanted t input input held held 1 t false
Progress-none wanted t input held fresh = record {
  fresh = fresh;
  lines = [];
  each = All-nil HasNoLineFeed;
  counted = omega arith;
  takes = record { consumes = Consumes-nil (left input.pending input.reader.known); counts = omega arith };
  reader = refl;
  written = [];
  appends = Appends-nil held.contents;
  writer = refl;
  runs = (refl, refl, refl);
}

pub with_line_feeds-push : (lines : List (List ℕ)) (line : List ℕ) → with_line_feeds (lines ++ line ∷ []) ≡ with_line_feeds lines ++ (line ++ 10 ∷ [])
with_line_feeds-push lines line = flat_map-append (λ l. l ++ 10 ∷ []) lines (line ∷ []) ∙ ap (λ x. with_line_feeds lines ++ x) (append-nil (line ++ 10 ∷ []))

-- One more line was carried out.
pub record Carried (wanted : SolveReply) (u : Timeline) (meaning : Result (Option Command) Refusal) (number : ℕ) (holds next : Writer) (refused : Bool)
    (v : Timeline) : Type 0 where
  pub text : List ℕ
  pub runs : LineRuns wanted.brief (Answers wanted.cut) number u meaning text refused v
  pub appends : Appends holds.contents next.contents text
  pub writer : next.has_failed ≡ holds.has_failed

-- One line more is progress by one.
abbrev pub Progress-more : {wanted : SolveReply} {t : Timeline} {before now : InputState} {held holds : Writer} {number : ℕ} {u : Timeline} {is_refused : Bool}
    (then : InputState) (next : Writer) (meaning : Result (Option Command) Refusal) (kept : Kept) (refused : Bool) (v : Timeline)
    → Progress wanted t before now held holds number u is_refused → TakesLine now then kept true → Means kept true meaning
    → Carried wanted u meaning number holds next refused v
    → Progress wanted t before then held next (number + 1) v (is_refused || refused)
Progress-more {wanted = wanted} {t = t} {before = before} {now = now} {number = number} {u = u} {is_refused = is_refused} then next meaning kept refused v p
    gave means c =
    let line = gave.line in
    let place : number ≡ 1 + length p.lines = omega (arith, p.counted) in
    record {
      fresh = p.fresh;
      lines = p.lines ++ line ∷ [];
      each = All-push HasNoLineFeed p.lines line p.each gave.no_line_feed;
      counted = omega (arith, length_push p.lines line, p.counted);
      takes = rw (with_line_feeds-push p.lines line) (Takes-trans before now then (with_line_feeds p.lines) (line ++ 10 ∷ []) p.takes gave.takes);
      reader = gave.mark ∙ p.reader;
      written = p.written ++ c.text;
      appends = Appends-trans _ _ _ p.written c.text p.appends c.appends;
      writer = c.writer ∙ p.writer;
      runs = Runs-push wanted.brief (Answers wanted.cut) 1 t p.lines p.written is_refused u line c.text refused v p.runs
          (rw (place, means line gave.keeps) at c.runs);
    }
