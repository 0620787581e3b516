use Rattle.dmf_path.proofs.labels.Labelling.{starts-spread}
use Rattle.dmf_path.proofs.frontier.Frontier.label_from.Goals as goal

pub label_within-ended-requires-clause-so_far : goal.label_within-ended-requires-clause-so_far
label_within-ended-requires-clause-so_far g c = starts-spread c.requires.root c.requires.one_flag_each c.requires.clean c.begin.ensures
