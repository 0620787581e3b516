use Rattle.std.proofs.Common.{◌≡◌, cond, length, ltb, false, sym, ap, ◌∙◌}
use Rattle.std.specs.Str.Lines.{strip_carriage_return}
use Rattle.dmf_streams.proofs.KeptLineLemmas.{whole-line}
use Rattle.dmf_runs.specs.CommandText.{command_of}
use Rattle.dmf_runs.proofs.command_text.meaning_of.Goals as goal

pub returns : goal.returns
returns c = λ line is.
    let short : c.args.line.now.is_long ≡ false = sym c.is_long.ensures ∙ c.if-is_long.false in
    let whole : c.args.line.now.bytes ≡ line = whole-line c.args.line.now line short is in
    let test : ltb 4096 (length line) ≡ false = sym is.long_is ∙ short in
    let content : c.line_text.result.now ≡ cond c.args.ended (strip_carriage_return line) line =
    c.line_text.ensures ∙ ap (λ bytes. cond c.args.ended (strip_carriage_return bytes) bytes) whole in
    rw test (c.read_command.ensures ∙ ap command_of content)
