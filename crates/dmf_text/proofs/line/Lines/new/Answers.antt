use Rattle.std.proofs.Common.{ap, ◌∙◌}
use Rattle.std.proofs.lemmas.List.FromFn.{length-enumerate_from}
use Rattle.std.specs.List.{enumerate_from}
use Rattle.dmf_text.proofs.LineLemmas.{lines-bstr}
use Rattle.dmf_text.proofs.line.Lines.new.Goals as goal

pub returns-clause-lines : goal.returns-clause-lines
returns-clause-lines c = ap (enumerate_from 1) (c.lines.ensures.value ∙ lines-bstr c.args.text.now)

pub returns-clause-len : goal.returns-clause-len
returns-clause-len c = rw (length-enumerate_from 1 c.lines.result) c.lines.ensures.len
