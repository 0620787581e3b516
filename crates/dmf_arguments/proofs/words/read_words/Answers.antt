use Rattle.std.proofs.Common.{ap, sym}
use Rattle.dmf_arguments.specs.Words.{mode_of}
use Rattle.dmf_arguments.proofs.words.read_words.Goals as goal

pub returns-in-Ok-clause-words : goal.returns-in-Ok-clause-words
returns-in-Ok-clause-words c = (c.read_arguments.result, c.read_arguments.ensures.words, sym (ap mode_of c.in-Ok.is))
