-- Draining a self loop: one step takes off all flow above the limit.
use Rattle.std.proofs.Common.{ℕ, ◌≡◌, ◌-◌, ◌<◌, List, [], ◌∷◌, length, set, true, ap, sym, ◌∙◌, arith, get_or-set_same}
use Rattle.std.proofs.lemmas.Slice.Zip.{AllZip-long}
use Rattle.dmf_path.specs.Step.{Step}
use Rattle.dmf_path.specs.Path.{ComesBefore, ranks, IsLeastPath}
use Rattle.dmf_state.specs.Network.{Network, arc_number, has_arc}
use Rattle.dmf_state.specs.Flow.{flow_on, IsFlow}
use Rattle.dmf_solver.specs.Drain.{carrying_steps, Drains}
use Rattle.dmf_state.proofs.ChangedArc.{has_arc-within}
use Rattle.dmf_solver.proofs.draining.Lowering.{lowered-none}

-- no path comes before the path without steps
none-before : (other : List Step) → length other ≡ 0 → ComesBefore (ranks other) [] → ⊥
none-before [] long before = before
none-before (s ∷ other) long before = before

-- The path without steps is the least one from a node to itself.
pub IsLeastPath-none : (steps : List Step) (a b : ℕ) → a ≡ b → IsLeastPath steps a b []
IsLeastPath-none steps a b same = record {
  leads = same;
  shortest = λ other leads. omega arith;
  first = λ other leads long before. none-before other long before;
}

-- Taking the flow of a self loop down to the limit drains it, along one path without steps.
abbrev pub drained-loop : (n : Network) (j limit : ℕ) (flows : List ℕ) → has_arc n j ≡ true → IsFlow n flows → (arc_number n j).tail ≡ (arc_number n j).head
    → limit < flow_on flows j → Drains n j limit flows (set flows (j - 1) limit)
drained-loop n j limit flows has flow loop above =
    let at = has_arc-within n j has in
    let within : j - 1 < length flows = omega (arith, at.1, AllZip-long _ n.arcs flows flow.within) in
    let less : flow_on flows j - (flow_on flows j - limit) ≡ limit = omega (arith, above) in
    record {
      paths = [] ∷ [];
      lowers = (
        above,
        IsLeastPath-none (carrying_steps n flows) (arc_number n j).head (arc_number n j).tail (sym loop),
        lowered-none j (flow_on flows j - limit) flows at.0 within ∙ ap (set flows (j - 1)) less,
      );
      within = omega (arith, get_or-set_same flows (j - 1) limit 0 within);
    }
