-- The pairs of links that stand for residual steps: their steps are the residual steps, except for self loops, and pushing along a path
-- of them augments.
use Rattle.std.proofs.Common.{ℕ, ◌≡◌, ◌+◌, ◌-◌, ◌*◌, ◌<◌, ◌≤◌, ◌==◌, Bool, true, false, cond, ltb, List, [], ◌∷◌, length, get_or, suc, refl, sym}
use Rattle.std.proofs.Common.{arith, Option, Some, add-zero}
use Rattle.std.proofs.lemmas.Bool.Decides.{nat_tests}
use Rattle.dmf_links.specs.declared.pair.Pair.{Pair}
use Rattle.dmf_path.specs.Step.{Step}
use Rattle.dmf_path.specs.Path.{has_rank, IsPath, bottleneck}
use Rattle.dmf_path.specs.Pair.{steps_of, pushed_pair, pushed_from, pushed_pairs}
use Rattle.dmf_path.proofs.paths.Loops.{AreWithoutLoops}
use Rattle.dmf_state.specs.declared.arc.Arc.{Arc}
use Rattle.dmf_state.specs.Arc.{no_arc}
use Rattle.dmf_state.specs.Flow.{AreWithinCapacities}
use Rattle.dmf_solver.specs.Pairs.{Against}
use Rattle.dmf_solver.specs.Residual.{residual_steps, augmented_from, augmented}
use Rattle.dmf_solver.specs.ResidualNetwork.{residual_pair, residual_pairs}
use Rattle.dmf_solver.proofs.pairs.ArcPairs.{PairsByArc, without_loops-by_arc}
use Rattle.dmf_solver.proofs.solving.Augmenting.{FitsOn, fits-least}
use Rattle.dmf_solver.proofs.solving.ResidualSteps.{by_residual, residual-each}

-- the residual pairs, arc by arc
abbrev pub by_residual_pair : PairsByArc
by_residual_pair = record {
  along = λ arc flow. arc.cap - flow;
  against = λ arc flow. flow;
  all = residual_pairs;
  none = λ flows. refl;
  short = λ arc arcs. refl;
  more = λ arc arcs flow flows. refl;
  link = Against;
  reads = λ arc flow. refl;
  fits = λ arc flow within. omega arith;
}

-- an arc can carry more flow if there is room
ltb-room : (flow cap : ℕ) → ltb 0 (cap - flow) ≡ ltb flow cap
ltb-room flow cap = grind (arith, nat_tests)

-- The steps of the pairs are the residual steps that do not come back.
pub residual-without_loops : (arcs : List Arc) (flows : List ℕ) → AreWithoutLoops (residual_steps arcs flows) (steps_of (residual_pairs arcs flows))
residual-without_loops arcs flows = without_loops-by_arc by_residual_pair by_residual
    (λ j arc flow. rw (ltb-room flow arc.cap) refl)
    (λ j arc flow s loop c. residual-each j arc flow (λ t. t.from ≡ t.to) s (λ _. loop) (λ _. sym loop) c)
    arcs flows

-- a pair with these rooms
pub pair-rooms : (tail head a b c d : ℕ) → a ≡ c → b ≡ d → ◌≡◌ {A = Option Pair} (Some (record { tail = tail; head = head; along = a; against = b }))
    (Some (record { tail = tail; head = head; along = c; against = d }))
pair-rooms tail head a b c d first second = λ i. Some (record { tail = tail; head = head; along = first i; against = second i })

-- the residual capacity then
rooms-ahead : (ahead behind : Bool) (amount flow cap : ℕ) → flow ≤ cap → (ahead ≡ true → amount + flow ≤ cap) → (behind ≡ true → amount ≤ flow)
    → cap - (flow + cond ahead amount 0 - cond behind amount 0) ≡ cap - flow - cond ahead amount 0 + cond behind amount 0
rooms-ahead true true amount flow cap within up down = let u = up refl in let d = down refl in omega (arith, within, u, d)
rooms-ahead true false amount flow cap within up down = let u = up refl in omega (arith, within, u)
rooms-ahead false true amount flow cap within up down = let d = down refl in omega (arith, within, d)
rooms-ahead false false amount flow cap within up down = omega (arith, within)

-- and the flow
rooms-behind : (ahead behind : Bool) (amount flow : ℕ) → (behind ≡ true → amount ≤ flow)
    → flow + cond ahead amount 0 - cond behind amount 0 ≡ flow - cond behind amount 0 + cond ahead amount 0
rooms-behind ahead true amount flow down = let d = down refl in omega (arith, d)
rooms-behind ahead false amount flow down = omega arith

-- The pair of an augmented arc is the arc's pair, pushed.
pair-augmented : (amount j : ℕ) (path : List Step) (arc : Arc) (flow : ℕ) (loop : Bool) → (arc.tail == arc.head) ≡ loop → flow ≤ arc.cap
    → FitsOn amount path j arc flow
    → residual_pair arc (flow + cond (has_rank path (2 * j)) amount 0 - cond (has_rank path (2 * j + 1)) amount 0)
    ≡ pushed_pair true j amount path (residual_pair arc flow)
pair-augmented amount j path arc flow true e within fits = rw e refl
pair-augmented amount j path arc flow false e within fits =
    rw e (pair-rooms arc.tail arc.head _ _ _ _ (rooms-ahead _ _ amount flow arc.cap within fits.0 fits.1) (rooms-behind _ _ amount flow fits.1))

-- the pairs of the arcs from number `j` on
pairs-augmented : (amount j : ℕ) (path : List Step) (arcs : List Arc) (flows : List ℕ) → AreWithinCapacities arcs flows
    → ((k : ℕ) → k < length arcs → FitsOn amount path (j + k) (get_or arcs k no_arc) (get_or flows k 0))
    → residual_pairs arcs (augmented_from j amount path flows) ≡ pushed_from true j amount path (residual_pairs arcs flows)
pairs-augmented amount j path [] [] within fit = refl
pairs-augmented amount j path [] (flow ∷ flows) within fit = refl
pairs-augmented amount j path (arc ∷ arcs) [] within fit = refl
pairs-augmented amount j path (arc ∷ arcs) (flow ∷ flows) within fit =
    let first = pair-augmented amount j path arc flow (arc.tail == arc.head) refl within.0 (rw (add-zero j) at (fit 0 (omega arith))) in
    let later = pairs-augmented amount (j + 1) path arcs flows within.1 (λ k h.
    let place : j + suc k ≡ j + 1 + k = omega arith in
    rw place at (fit (suc k) (omega (arith, h)))) in
    λ i. first i ∷ later i

-- The pairs of the augmented flows are the pairs of the flows, pushed along the path by the bottleneck on it.
pub residual_pairs-augmented : (arcs : List Arc) (flows : List ℕ) (a b : ℕ) (path : List Step) → AreWithinCapacities arcs flows
    → IsPath (residual_steps arcs flows) a b path → residual_pairs arcs (augmented path flows) ≡ pushed_pairs true (bottleneck path) path
    (residual_pairs arcs flows)
residual_pairs-augmented arcs flows a b path within leads =
    pairs-augmented (bottleneck path) 1 path arcs flows within (λ k h. fits-least arcs flows a b path k leads)
