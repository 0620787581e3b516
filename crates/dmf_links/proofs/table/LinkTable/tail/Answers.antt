use Rattle.std.proofs.Common.{ap, ◌∙◌, get_or}
use Rattle.std.proofs.lemmas.List.{get_or_default}
use Rattle.dmf_links.proofs.table.LinkTable.tail.Goals as goal

pub returns : goal.returns
returns c =
    c.index.ensures ∙ get_or_default c.args.self.now.heads.items c.opposite.result _ 0 c.opposite.ensures.within
    ∙ ap (λ p. get_or c.args.self.now.heads.items p 0) c.opposite.ensures.is
