use Rattle.std.proofs.Common.{◌∙◌}
use Rattle.dmf_arguments.proofs.words.fault_of.Goals as goal

pub returns-in_default-kind : goal.returns-in_default-kind
returns-in_default-kind c = record {
  memory = λ is. let same = rw (c.kind.ensures ∙ is) at c.eq.ensures in cc;
  help = λ is. absurd (c.in_default-kind.not-DisplayHelp (c.kind-2.ensures ∙ is));
  version = λ is. absurd (c.in_default-kind.not-DisplayVersion (c.kind-2.ensures ∙ is));
  usage = λ _ _. tt;
}
