use Rattle.std.proofs.Common.{◌≡◌, get_or, ◌∙◌, arith}
use Rattle.std.proofs.lemmas.List.{get_or_default}
use Rattle.dmf_links.proofs.table.LinkTable.opposite.Goals as goal

pub returns : goal.returns
returns c =
    let t = c.args.self.now in
    let is : c.index.result.now ≡ get_or t.partners.items c.args.place 0 =
    c.index.ensures ∙ get_or_default t.partners.items c.args.place _ 0 (omega (arith, t.are.partners_long, c.requires)) in
    record { is = is; within = omega (arith, is, (t.are.each c.args.place c.requires).partner) }
