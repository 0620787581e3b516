-- How a run of command lines ends.
use Rattle.std.proofs.Common.{◌^◌, ℕ, ◌≡◌, ◌+◌, ◌-◌, ◌<◌, ◌≤◌, List, [], ◌∷◌, ◌++◌, length, take, Bool, true, false, ◌||◌, Option, Some, None, Result, Ok, Err}
use Rattle.std.proofs.Common.{◌⊎◌, inl, inr, refl, sym, ap, ◌∙◌, arith, append_assoc, append-nil}
use Rattle.std.specs.Io.KnownBytes.{Consumes, Appends, IsAtEnd, append_known}
use Rattle.std.proofs.KnownBytes.{Appends-trans}
use Rattle.std.proofs.lemmas.List.{length-append, take_at}
use Rattle.std.proofs.lemmas.List.Elements.{All-nil}
use Rattle.dmf_session.specs.declared.command.Command.{Command}
use Rattle.dmf_session.specs.declared.command.Refusal.{Refusal}
use Rattle.dmf_session.specs.Step.{Answers}
use Rattle.dmf_history.specs.Timeline.{Timeline}
use Rattle.dmf_streams.specs.declared.fault.Status.{Status}
use Rattle.dmf_streams.specs.declared.fault.EngineFault.{EngineFault}
use Rattle.dmf_streams.specs.declared.fault.EngineFault.TheVariants as fault
use Rattle.dmf_runs.specs.declared.reply.SolveReply.{SolveReply}
use Rattle.dmf_text.specs.declared.writer.WriteFault.{WriteFault}
use Rattle.dmf_text.specs.Streams.{Writer}
use Rattle.dmf_streams.specs.Pending.{Pending}
use Rattle.dmf_streams.specs.KeptLine.{Kept}
use Rattle.dmf_runs.specs.Line.{IsSplit, Means, with_line_feeds, line_meaning}
use Rattle.dmf_streams.specs.Input.{HasNoLineFeed, InputState, TakesBytes, TakesLine, HasEnded, HasFailed, GivesLine, GivesEnd, left}
use Rattle.dmf_runs.specs.Run.{HasReply, LineRuns}
use Rattle.dmf_runs.specs.Outcome.{Gave, LastHasReply, RestRuns, RunsAll, RunsCommandsWith, status_if}
use Rattle.dmf_runs.specs.WrittenLine.{WritesLine}
use Rattle.dmf_streams.proofs.TakingLemmas.{Takes-trans}
use Rattle.dmf_runs.proofs.LineLemmas.{lines-and-rest, line_count-le}
use Rattle.std.proofs.Math.Bool.{or-false}
use Rattle.dmf_runs.proofs.Progress.{streams, Progress, Carried, Progress-more}

-- a writer whose bytes are known, and that took a text
Appends-known : (known : Option (List ℕ)) (text : List ℕ) → Appends known (append_known known text) text
Appends-known None text = tt
Appends-known (Some xs) text = refl

-- the bytes that a reader gave, from the bytes that were taken
Consumes-given : (p q : Pending) (known after : Option (List ℕ)) (bytes : List ℕ) → p.bytes ≡ [] → Consumes (left p known) (left q after) bytes
    → Consumes known after (bytes ++ q.bytes)
Consumes-given p q None after bytes none c = tt
Consumes-given p q (Some xs) None bytes none c = absurd c
Consumes-given p q (Some xs) (Some ys) bytes none c =
    sym (ap (λ front. front ++ xs) none) ∙ c ∙ sym (append_assoc bytes q.bytes ys)

-- the rest, which no line feed ended
rest-runs : (wanted : SolveReply) (number : ℕ) (u : Timeline) (line text : List ℕ) (refused : Bool) (v : Timeline) → 0 < length line
    → LineRuns wanted.brief (Answers wanted.cut) number u (line_meaning false line) text refused v
    → RestRuns wanted.brief (Answers wanted.cut) number u line text refused
rest-runs wanted number u [] text refused v some runs = absurd (omega (arith, some))
rest-runs wanted number u (byte ∷ line) text refused v some runs = (v, runs)

rest-replies : (lines : List (List ℕ)) (line : List ℕ) → 0 < length line → HasReply (line_meaning false line) → LastHasReply lines line
rest-replies lines [] some replies = absurd (omega (arith, some))
rest-replies lines (byte ∷ line) some replies = replies

-- the lines so far, as the whole text
module _ {wanted : SolveReply} {t : Timeline} {before now : InputState} {held holds : Writer} {number : ℕ} {u : Timeline} {is_refused : Bool}
    (p : Progress wanted t before now held holds number u is_refused) where
  abbrev all-so-far : RunsAll wanted.brief (Answers wanted.cut) t (with_line_feeds p.lines) p.written is_refused
  all-so-far = lines-and-rest u p.written is_refused [] false
      (record { whole = sym (append-nil (with_line_feeds p.lines)); each = p.each; last = All-nil (λ (b : ℕ). b ≡ 10 → ⊥) }) p.runs (refl, refl)
      (sym (append-nil p.written)) (sym (or-false is_refused))

-- ---- how a run ends after some lines

module _ {wanted : SolveReply} {t : Timeline} {before now : InputState} {held holds : Writer} {number : ℕ} {u : Timeline} {is_refused : Bool}
    (p : Progress wanted t before now held holds number u is_refused) where
  -- the bytes of the lines so far
  abbrev bytes : List ℕ
  bytes = with_line_feeds p.lines

  module _ (then : InputState) where
    -- The bytes of the lines so far and these were taken.
    taken : (rest : List ℕ) → TakesBytes now then rest → TakesBytes before then (bytes ++ rest)
    taken rest takes = Takes-trans before now then bytes rest p.takes takes

    -- a run whose reader gave the bytes that were taken and those that are pending, with this result
    ends : (all given written : List ℕ) (next : Writer) (result : Result Status EngineFault) → TakesBytes before then all → given ≡ all ++ then.pending.bytes
        → Appends held.contents next.contents written → Gave wanted t (streams before held) (streams then next) given written result
        → RunsCommandsWith wanted t (streams before held) (streams then next) result
    ends all given written next result takes is appends gave = record {
      given = given;
      written = written;
      consumes = rw is (Consumes-given before.pending then.pending before.reader.known then.reader.known all p.fresh.none_pending takes.consumes);
      appends = appends;
      gave = gave;
    }

    -- the end of the input
    pub RunsCommands-end : (status : Status) → number ≤ 1000000 + 1 → status ≡ status_if is_refused → TakesBytes now then [] → HasEnded now then
        → RunsCommandsWith wanted t (streams before held) (streams then holds) (Ok status)
    RunsCommands-end status few told takes ended =
        let all = rw append-nil at (taken [] takes) in
        ends bytes bytes p.written holds (Ok status) all (rw (ended.none_pending, append-nil)) p.appends (record {
          refused = is_refused;
          all = all-so-far p;
          told = told;
          within = record { at_end = ended.at_end; bytes = omega (arith, all.counts, p.fresh.none_taken, ended.within); lines = omega (arith, p.counted) };
          none_failed = record { reader = ended.mark ∙ p.reader; writer = p.writer };
        })

    -- a failed read
    RunsCommands-read : (rest : List ℕ) → HasNoLineFeed rest → TakesBytes now then rest → HasFailed then
        → RunsCommandsWith wanted t (streams before held) (streams then holds) (Err fault.Read)
    RunsCommands-read rest no_line_feed takes failed =
        let split : IsSplit (bytes ++ rest) p.lines rest = record { whole = refl; each = p.each; last = no_line_feed } in
        ends (bytes ++ rest) (bytes ++ rest) p.written holds (Err fault.Read) (taken rest takes) (rw (failed.none_pending, append-nil)) p.appends (record {
          lines = record { lines = p.lines; rest = rest; split = split; refused = is_refused; after = u; runs = p.runs };
          reader = failed.mark;
          writer = p.writer;
        })

    -- The input exceeds a limit: 1,000,000 lines and one byte more, or 2^30 bytes before the next line ends.
    RunsCommands-past_limit : (rest : List ℕ) → number ≤ 1000000 + 1 → TakesBytes now then rest → then.pending.count ≤ 2 ^ 30
        → then.reader.has_failed ≡ now.reader.has_failed
        → ((length p.lines ≡ 1000000) × (0 < length (rest ++ then.pending.bytes)))
        ⊎ ((2 ^ 30 < length ((bytes ++ rest) ++ then.pending.bytes)) × HasNoLineFeed (take (2 ^ 30 - length bytes) (rest ++ then.pending.bytes)))
        → RunsCommandsWith wanted t (streams before held) (streams then holds) (Err fault.TooMuchInput)
    RunsCommands-past_limit rest few takes within mark past =
        let all = taken rest takes in
        ends (bytes ++ rest) ((bytes ++ rest) ++ then.pending.bytes) p.written holds (Err fault.TooMuchInput) all refl p.appends (record {
          lines = record {
            lines = p.lines;
            rest = rest ++ then.pending.bytes;
            given_is = append_assoc bytes rest then.pending.bytes;
            each = p.each;
            at_most_lines = omega (arith, p.counted, few);
            at_most_bytes = omega (arith, all.counts, p.fresh.none_taken, within, length-append bytes rest);
            past = past;
            refused = is_refused;
            after = u;
            runs = p.runs;
          };
          none_failed = record { reader = mark ∙ p.reader; writer = p.writer };
        })

    -- the request for a line failed
    pub RunsCommands-refused : (told : EngineFault) (kept : Kept) → number ≤ 1000000 + 1 → GivesLine now then kept (Err told)
        → RunsCommandsWith wanted t (streams before held) (streams then holds) (Err told)
    RunsCommands-refused fault.Read kept few gave = RunsCommands-read gave.0 gave.1 gave.2 gave.3
    RunsCommands-refused fault.TooMuchInput kept few gave =
        let rest = gave.0 in
        let all = taken rest gave.2 in
        let long : length bytes + length rest ≡ 2 ^ 30 = omega (arith, all.counts, p.fresh.none_taken, gave.3.at_limit, length-append bytes rest) in
        let rest_within : 2 ^ 30 - length bytes ≡ length rest = omega (arith, long) in
        RunsCommands-past_limit rest few gave.2 (omega (arith, gave.3.at_limit)) gave.3.mark (inr (
          omega (arith, long, gave.3.pending, length-append (bytes ++ rest) then.pending.bytes, length-append bytes rest),
          rw (rest_within, take_at rest then.pending.bytes (length rest) refl) gave.1,
        ))
    RunsCommands-refused told kept few gave = absurd gave

    -- the request for the end failed, after the largest number of lines
    pub RunsCommands-past : (told : EngineFault) → number ≡ 1000000 + 1 → GivesEnd now then (Err told)
        → RunsCommandsWith wanted t (streams before held) (streams then holds) (Err told)
    RunsCommands-past fault.Read last gave = RunsCommands-read [] (All-nil (λ (b : ℕ). b ≡ 10 → ⊥)) gave.0 gave.1
    RunsCommands-past fault.TooMuchInput last gave =
        RunsCommands-past_limit gave.0 (omega (arith, last)) gave.2 gave.3 gave.4 (inl (omega (arith, last, p.counted), gave.1))
    RunsCommands-past told last gave = absurd gave

    module _ (next : Writer) (meaning : Result (Option Command) Refusal) (kept : Kept) (v : Timeline) where
      -- the lines so far and a last line, as the whole text
      abbrev all-with-last : (text : List ℕ) (refused : Bool) (gave : TakesLine now then kept false) → Means kept false meaning
          → LineRuns wanted.brief (Answers wanted.cut) number u meaning text refused v
          → RunsAll wanted.brief (Answers wanted.cut) t (bytes ++ gave.line) (p.written ++ text) (is_refused || refused)
      all-with-last text refused gave means runs =
          lines-and-rest u p.written is_refused text refused (record { whole = refl; each = p.each; last = gave.no_line_feed }) p.runs
          (rest-runs wanted (length p.lines + 1) u gave.line text refused v (gave.last refl).0 (rw (← p.counted, means gave.line gave.keeps) at runs)) refl refl

      -- a last line was carried out
      pub RunsCommands-last : (refused : Bool) (status : Status) → number ≤ 1000000 → status ≡ status_if (is_refused || refused)
          → TakesLine now then kept false → Means kept false meaning → Carried wanted u meaning number holds next refused v
          → RunsCommandsWith wanted t (streams before held) (streams then next) (Ok status)
      RunsCommands-last refused status few told gave means c =
          let ended = (gave.last refl).1 in
          let all = taken gave.line gave.takes in
          ends (bytes ++ gave.line) (bytes ++ gave.line) (p.written ++ c.text) next (Ok status) all (rw (ended.none_pending, append-nil))
          (Appends-trans _ _ _ p.written c.text p.appends c.appends) (record {
            refused = is_refused || refused;
            all = all-with-last c.text refused gave means c.runs;
            told = told;
            within = record {
              at_end = ended.at_end;
              bytes = omega (arith, all.counts, p.fresh.none_taken, ended.within);
              lines = omega (arith, line_count-le p.lines gave.line, p.counted);
            };
            none_failed = record { reader = ended.mark ∙ p.reader; writer = c.writer ∙ p.writer };
          })

      -- a line with a reply, of which a prefix was written before a put or the flush failed
      module _ (failed : WriteFault) (replies : HasReply meaning) (told : WritesLine wanted holds next number u meaning v (Err failed)) where
        -- The bytes were taken, and a prefix of what their lines write was written.
        front-written : (all : List ℕ) → TakesBytes before then all → then.reader.has_failed ≡ now.reader.has_failed
            → (runs : RunsAll wanted.brief (Answers wanted.cut) t all (p.written ++ told.0) (is_refused || told.1)) → LastHasReply runs.lines runs.rest
            → (runs.rest ≡ []) ⊎ ((then.pending.bytes ≡ []) × IsAtEnd then.reader.known)
            → RunsCommandsWith wanted t (streams before held) (streams then next) (Err fault.Write)
        front-written all takes mark runs last at_end =
            ends all (all ++ then.pending.bytes) (p.written ++ told.3.0) next (Err fault.Write) takes refl
            (Appends-trans _ _ _ p.written told.3.0 p.appends told.3.3) (record {
              lines = record {
                front = all;
                behind = then.pending.bytes;
                given_is = refl;
                whole = p.written ++ told.0;
                refused = is_refused || told.1;
                runs = runs;
                replies = last;
                ends = at_end;
                rest = told.3.1;
                text_is = cc (append_assoc p.written told.3.0 told.3.1, told.3.2);
              };
              writer = told.3.4;
              reader = mark ∙ p.reader;
            })

        -- a failed write of the reply to a line
        pub RunsCommands-write : (ended : Bool) → TakesLine now then kept ended → Means kept ended meaning
            → RunsCommandsWith wanted t (streams before held) (streams then next) (Err fault.Write)
        RunsCommands-write true gave means =
            let known : Writer = record { contents = append_known holds.contents told.0; has_failed = holds.has_failed } in
            let more = Progress-more then known meaning kept told.1 v p gave means
            (record { text = told.0; runs = told.2; appends = Appends-known holds.contents told.0; writer = refl }) in
            front-written (with_line_feeds (p.lines ++ gave.line ∷ [])) more.takes gave.mark (all-so-far more)
            (p.lines, gave.line, refl, rw (← means gave.line gave.keeps) replies) (inl refl)
        RunsCommands-write false gave means =
            let last = gave.last refl in
            front-written (bytes ++ gave.line) (taken gave.line gave.takes) gave.mark (all-with-last told.0 told.1 gave means told.2)
            (rest-replies p.lines gave.line last.0 (rw (← means gave.line gave.keeps) replies)) (inr (last.1.none_pending, last.1.at_end))
