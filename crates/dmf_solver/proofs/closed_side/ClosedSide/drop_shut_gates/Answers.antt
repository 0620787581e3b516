use Rattle.std.proofs.Common.{rules, refl}
use Rattle.std.proofs.lemmas.Fn.{filter_same}
use Rattle.dmf_solver.proofs.cuts.Gates.{kept-filtered}
use Rattle.dmf_solver.proofs.closed_side.ClosedSide.drop_shut_gates.Goals as goal

pub returns : goal.returns
returns c =
    kept-filtered c.args.search.now c.args.self.now.marks.items c.args.self.now.gates.items _ refl
    (filter_same _ _ _ (λ x b f' k. search rules) _ _ c.retain.ensures.filtered)
