use Rattle.dmf_arguments.proofs.PlainWordsLemmas.{plain_words}
use Rattle.dmf_arguments.proofs.laws.plain_words_are_read.Goals as goal

pub returns : goal.returns
returns c = plain_words
