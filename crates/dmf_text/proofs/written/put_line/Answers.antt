use Rattle.std.proofs.Common.{subst, ◌∙◌}
use Rattle.dmf_text.specs.Writing.{Writes}
use Rattle.dmf_text.proofs.written.put_line.Goals as goal

pub returns : goal.returns
returns g c =
    subst (λ text. Writes (g.W.Sink.written c.args.out.now) (g.W.Sink.written c.put_all.new.out) c.put_all.result text)
    (c.as_bytes.ensures ∙ c.line_of.ensures) c.put_all.ensures
