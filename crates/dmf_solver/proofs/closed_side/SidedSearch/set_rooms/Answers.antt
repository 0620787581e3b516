use Rattle.dmf_solver.proofs.cuts.Gates.{closed-gated, changes-set}
use Rattle.dmf_solver.proofs.closed_side.SidedSearch.set_rooms.Goals as goal

pub invariant_of-self : goal.invariant_of-self
invariant_of-self c =
    closed-gated c.self.inside.search c.set_rooms.new.self c.self.inside.side c.with_gate.result c.args.k c.self.invariant
    (changes-set c.self.inside.search c.set_rooms.new.self c.args.k c.args.along c.args.against c.set_rooms.ensures)
    (rw c.take.ensures.value at c.with_gate.ensures)
