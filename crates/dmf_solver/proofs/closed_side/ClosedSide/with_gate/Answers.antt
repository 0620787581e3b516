use Rattle.std.proofs.Common.{◌≡◌, ◌++◌, ◌∷◌, [], sym, subst, rules}
use Rattle.dmf_solver.specs.Gates.{KeepsGates}
use Rattle.dmf_solver.proofs.cuts.Gates.{kept-all, kept-pushed}
use Rattle.dmf_solver.proofs.closed_side.ClosedSide.with_gate.Goals.{then-len-ge-MOST_GATES+else-len, else-len-ge-MOST_GATES}
use Rattle.dmf_solver.proofs.closed_side.ClosedSide.with_gate.Goals as goal

pub returns : goal.returns
returns c =
    let s = c.args.search.now in
    let side = c.args.self in
    let left = c.if-len-ge-MOST_GATES.self in
    let keeps : KeepsGates s side.marks.items side.gates.items left = elim c.if-len-ge-MOST_GATES.branch [
      | then-len-ge-MOST_GATES+else-len w ↦ subst (KeepsGates s side.marks.items side.gates.items) (sym w.self-is) w.drop_shut_gates.ensures
      | else-len-ge-MOST_GATES w ↦ subst (KeepsGates s side.marks.items side.gates.items) (sym w.self-is) (kept-all s side)
    ]
    in
    let items : c.push.new.self.items ≡ left.gates.items ++ c.args.k ∷ [] = search rules in
    kept-pushed s side.marks.items side.gates.items left.gates.items c.args.k _ keeps.marks_are keeps.kept items
