-- The gates stay after a path that leaves the marked nodes once.
use Rattle.std.proofs.Common.{ℕ, sym, subst, ◌∙◌}
use Rattle.std.specs.Prelude.{IfSome, Vec}
use Rattle.std.specs.declared.alloc.Global.{Global}
use Rattle.std.proofs.lemmas.Option.{IfSome_then}
use Rattle.dmf_path.specs.Search.{Augments}
use Rattle.dmf_solver.specs.Gates.{AreGuarded}
use Rattle.dmf_solver.specs.WaysOut.{AreKnown}
use Rattle.dmf_solver.proofs.cuts.Gates.{no_path-closed}
use Rattle.dmf_solver.proofs.cuts.WaysOut.{gates-next}
use Rattle.dmf_solver.proofs.solve.next_path.Goals as goal

pub returns-in-Closed-clause-found : goal.returns-in-Closed-clause-found
returns-in-Closed-clause-found c = (no_path-closed _ _ _ _ c.in-Closed.ensures.passage, c.look_through.ensures.same)

pub returns-then-found-long-clause-ways : goal.returns-then-found-long-clause-ways
returns-then-found-long-clause-ways c = λ some.
    let s = c.args.search.now in
    let new = c.augment_or_mark.new.self in
    let marks = c.args.marks.now in
    let known = subst (λ o. IfSome o (AreKnown s marks)) (sym c.take.ensures.value ∙ c.in-Some.is) c.requires.ways in
    let path = c.in_ok-found-in-Once.ensures in
    let found : Augments _ c.in_ok-found-in-Once.found s new = rw c.look_through.ensures.same at path.found in
    let after = gates-next s new _ c.in-Once.long c.in_ok-found-in-Once.found marks c.in-Some.before.gates.items known c.in-Once.ensures.passage.0
    c.if-found-long.true found in
    let kept = path.kept some ∙ c.in-Once.ensures.passage.1 in
    rw kept (IfSome_then c.next.result c.next.ensures (λ next same.
    subst (λ (gates : Vec ℕ Global). AreGuarded new marks gates.items) (sym same) after))
