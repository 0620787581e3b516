use Rattle.std.proofs.Common.{◌≡◌, ◌∙◌, length, arith}
use Rattle.dmf_solver.proofs.cuts.Gates.{closed-anew}
use Rattle.dmf_solver.proofs.closed_side.SidedSearch.at_end.Goals as goal

pub invariant_of-result : goal.invariant_of-result
invariant_of-result c =
    let long : length c.args.marks.items ≡ c.args.nodes = omega (arith, c.if-len-nodes.false, c.len.ensures, c.args.marks.ok.0) in
    closed-anew c.args.search c.args.marks.items _ (long ∙ c.requires.nodes) (c.requires.side long)
