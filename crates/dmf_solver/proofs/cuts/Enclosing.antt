-- Sets of nodes that no residual step leaves, arc by arc. No path leads out of one.
use Rattle.std.proofs.Common.{ℕ, ◌≡◌, ◌+◌, ◌<◌, List, length, get_or, Bool, true, false, arith}
use Rattle.std.proofs.lemmas.Bool.{both_ways}
use Rattle.dmf_state.specs.declared.arc.Arc.{Arc}
use Rattle.dmf_state.specs.Arc.{no_arc}
use Rattle.dmf_path.specs.Path.{HasNoPath}
use Rattle.dmf_solver.specs.Enclosed.{StaysIn}
use Rattle.dmf_solver.specs.Residual.{residual_steps}
use Rattle.dmf_solver.proofs.pairs.ByArc.{step-at, has-step}
use Rattle.dmf_solver.proofs.cuts.Reached.{IsClosed, path-stays}
use Rattle.dmf_solver.proofs.solving.ResidualSteps.{by_residual, residual-each, residual-ahead, residual-behind}

-- No residual step of any arc leads out of the set.
abbrev pub AllStay : (ℕ → Bool) → List Arc → List ℕ → Type 0
AllStay has arcs flows = (k : ℕ) → k < length arcs → StaysIn has (get_or arcs k no_arc) (get_or flows k 0)

-- So no residual step does,
pub closed-from_stay : (has : ℕ → Bool) (arcs : List Arc) (flows : List ℕ) → AllStay has arcs flows → IsClosed (residual_steps arcs flows) has
closed-from_stay has arcs flows stay s c =
    let at = step-at by_residual 1 arcs flows s c in
    let stays = stay at.index at.within in
    residual-each (1 + at.index) (get_or arcs at.index no_arc) (get_or flows at.index 0) (λ t. has t.from ≡ true → has t.to ≡ true) s stays.0 stays.1 at.has

-- and if none does, none of any arc does.
pub stay-from_closed : (has : ℕ → Bool) (arcs : List Arc) (flows : List ℕ) → length flows ≡ length arcs → IsClosed (residual_steps arcs flows) has
    → AllStay has arcs flows
stay-from_closed has arcs flows same closed k within =
    let arc : Arc = get_or arcs k no_arc in
    let flow : ℕ = get_or flows k 0 in
    let long : k < length flows = omega (arith, within, same) in (
      λ more. closed _ (has-step by_residual 1 arcs flows _ k within long (residual-ahead (1 + k) arc flow more)),
      λ some. closed _ (has-step by_residual 1 arcs flows _ k within long (residual-behind (1 + k) arc flow some)),
    )

-- So no path leads from a node of the set to one outside.
pub none-out : (has : ℕ → Bool) (arcs : List Arc) (flows : List ℕ) (a b : ℕ) → AllStay has arcs flows → has a ≡ true → has b ≡ false
    → HasNoPath (residual_steps arcs flows) a b
none-out has arcs flows a b stay from to path leads =
    both_ways (has b) to (path-stays (residual_steps arcs flows) has a b path (closed-from_stay has arcs flows stay) leads from)
