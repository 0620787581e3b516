use Rattle.std.proofs.Common.{◌≡◌, [], ◌∙◌, subst, sym, rules}
use Rattle.std.specs.Prelude.{IfSome}
use Rattle.dmf_solver.specs.Gates.{IsClosedBut}
use Rattle.dmf_solver.proofs.cuts.Gates.{closed-kept, no_path-without_gates, nothing}
use Rattle.dmf_solver.proofs.closed_side.SidedSearch.is_closed.Goals as goal

pub returns-clause-none : goal.returns-clause-none
returns-clause-none c = λ closed.
    let of = c.self.inside.search in
    let is = subst (λ side. IfSome side (IsClosedBut of)) (sym c.take.ensures.value ∙ c.in-Some.is) c.self.invariant in
    let none : c.drop_shut_gates.new.self.gates.items ≡ [] = nothing _ (search rules) in
    rw (← c.self.view_is)
    (no_path-without_gates of c.drop_shut_gates.new.self (closed-kept of c.in-Some.side c.drop_shut_gates.new.self is c.drop_shut_gates.ensures)
    none)
