use Rattle.std.proofs.Common.{length, subst, ◌≡◌}
use Rattle.std.specs.Prelude.{IfSome}
use Rattle.dmf_solver.proofs.cuts.Gates.{gated-some}
use Rattle.dmf_solver.proofs.closed_side.with_gate.Goals as goal

pub with_gate-requires : goal.with_gate-requires
with_gate-requires c =
    subst (λ side. IfSome side (λ side. length side.marks.items ≡ c.args.search.now.nodes)) c.in_ok-side.was c.requires

pub returns : goal.returns
returns c = gated-some c.args.search.now c.args.side c.in_ok-side.field-0 c.args.k c.with_gate.result c.in_ok-side.was c.with_gate.ensures
