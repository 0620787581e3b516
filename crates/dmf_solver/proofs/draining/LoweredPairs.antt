-- The pairs that stand for carrying steps, after an arc is lowered along a least path: the pairs are pushed along the path, and lowered
-- by the same amount at the arc.
use Rattle.std.proofs.Common.{ℕ, ◌≡◌, ◌+◌, ◌-◌, ◌*◌, ◌<◌, ◌==◌, Bool, true, false, cond, List, [], ◌∷◌, ◌++◌, length, zero, suc, refl, ap, ◌∙◌, arith, add-zero}
use Rattle.std.proofs.Common.{eq-eqb, Option}
use Rattle.std.specs.Option.{option_map}
use Rattle.std.proofs.lemmas.Bool.{ne_eqb}
use Rattle.std.proofs.lemmas.Slice.Zip.{AllZip-long}
use Rattle.dmf_links.specs.declared.pair.Pair.{Pair}
use Rattle.dmf_path.specs.Step.{Step}
use Rattle.dmf_path.specs.Path.{has_rank, bottleneck_up_to}
use Rattle.dmf_path.specs.Pair.{pushed_pair, pushed_from, pushed_pairs}
use Rattle.dmf_path.specs.Search.{lowered_pair, lowered_along}
use Rattle.dmf_state.specs.declared.arc.Arc.{Arc}
use Rattle.dmf_state.specs.Network.{Network}
use Rattle.dmf_state.specs.Flow.{flow_on}
use Rattle.dmf_solver.specs.Drain.{value_or_zero, lowered_from, lowered}
use Rattle.dmf_solver.specs.CarryingNetwork.{carrying_pair, carrying_from, return_pair, carrying_pairs}
use Rattle.dmf_state.proofs.ChangedArc.{has_arc-within}
use Rattle.dmf_solver.proofs.pairs.ResidualPairs.{pair-rooms}
use Rattle.dmf_solver.proofs.draining.Lowering.{CanLower, other-rank, value_or_zero-lowered}

-- If an arc's flow is lower because the path has its step, its new pair is the old one, pushed.
pair-pushed : (amount j : ℕ) (path : List Step) (arc : Arc) (flow : ℕ) (loop : Bool) → (arc.tail == arc.head) ≡ loop
    → carrying_pair arc (flow - cond (has_rank path (2 * j)) amount 0) ≡ pushed_pair false j amount path (carrying_pair arc flow)
pair-pushed amount j path arc flow true e = rw e refl
pair-pushed amount j path arc flow false e = rw e (pair-rooms arc.tail arc.head _ _ _ _ (omega arith) (omega arith))

-- If an arc's flow is lower although the path does not have its step, its new pair is the old one, pushed and lowered.
pair-lowered : (amount j : ℕ) (path : List Step) (arc : Arc) (flow : ℕ) (loop : Bool) → (arc.tail == arc.head) ≡ loop → has_rank path (2 * j) ≡ false
    → carrying_pair arc (flow - amount) ≡ option_map (lowered_pair amount) (pushed_pair false j amount path (carrying_pair arc flow))
pair-lowered amount j path arc flow true e none = rw e refl
pair-lowered amount j path arc flow false e none = rw (e, none) (pair-rooms arc.tail arc.head _ _ _ _ (omega arith) (omega arith))

-- The pair of the return link carries less if the path has the return link.
return-pushed : (amount : ℕ) (path : List Step) (n : Network) (flows now : List ℕ)
    → value_or_zero n now ≡ value_or_zero n flows - cond (has_rank path (2 * length n.arcs + 2)) amount 0
    → return_pair n now ≡ pushed_pair false (1 + length n.arcs) amount path (return_pair n flows)
return-pushed amount path n flows now less =
    let rank : 2 * (1 + length n.arcs) ≡ 2 * length n.arcs + 2 = omega arith in
    rw (less, rank) (pair-rooms n.sink n.source _ _ _ _ (omega arith) (omega arith))

-- The pairs after that of arc number `j` are pushed.
pairs-behind : (amount i j : ℕ) (path : List Step) (arcs : List Arc) (flows : List ℕ) (last now : Option Pair) → j < i → length flows ≡ length arcs
    → now ≡ pushed_pair false (i + length arcs) amount path last →
    carrying_from arcs (lowered_from i j amount path flows) ++ now ∷ [] ≡ pushed_from false i amount path (carrying_from arcs flows ++ last ∷ [])
pairs-behind amount i j path [] flows last now behind same is =
    ap (λ p. p ∷ []) (is ∙ ap (λ m. pushed_pair false m amount path last) (add-zero i))
pairs-behind amount i j path (arc ∷ arcs) [] last now behind same is = absurd (omega (arith, same))
pairs-behind amount i j path (arc ∷ arcs) (flow ∷ flows) last now behind same is =
    let place : i + length (arc ∷ arcs) ≡ i + 1 + length arcs = omega arith in
    let own = pair-pushed amount i path arc flow (arc.tail == arc.head) refl in
    let rest = pairs-behind amount (i + 1) j path arcs flows last now (omega (arith, behind)) (omega (arith, same))
    (is ∙ ap (λ m. pushed_pair false m amount path last) place) in
    rw (ne_eqb i j (omega (arith, behind))) (λ t. own t ∷ rest t)

-- The pairs are pushed, and that of arc number `j` lowered.
pairs-lowered : (amount i j k : ℕ) (path : List Step) (arcs : List Arc) (flows : List ℕ) (last now : Option Pair) → j ≡ i + k → k < length arcs
    → has_rank path (2 * j) ≡ false → length flows ≡ length arcs → now ≡ pushed_pair false (i + length arcs) amount path last →
    carrying_from arcs (lowered_from i j amount path flows) ++ now ∷ [] ≡ lowered_along
    (pushed_from false i amount path (carrying_from arcs flows ++ last ∷ [])) k amount
pairs-lowered amount i j k path [] flows last now at within none same is = absurd (omega (arith, within))
pairs-lowered amount i j k path (arc ∷ arcs) [] last now at within none same is = absurd (omega (arith, same))
pairs-lowered amount i j zero path (arc ∷ arcs) (flow ∷ flows) last now at within none same is =
    let here : i ≡ j = omega (arith, at) in
    let place : i + length (arc ∷ arcs) ≡ i + 1 + length arcs = omega arith in
    let own = pair-lowered amount i path arc flow (arc.tail == arc.head) refl (ap (λ m. has_rank path (2 * m)) here ∙ none) in
    let rest = pairs-behind amount (i + 1) j path arcs flows last now (omega (arith, here)) (omega (arith, same))
    (is ∙ ap (λ m. pushed_pair false m amount path last) place) in
    rw (eq-eqb i j here) (λ t. own t ∷ rest t)
pairs-lowered amount i j (suc k) path (arc ∷ arcs) (flow ∷ flows) last now at within none same is =
    let place : i + length (arc ∷ arcs) ≡ i + 1 + length arcs = omega arith in
    let own = pair-pushed amount i path arc flow (arc.tail == arc.head) refl in
    let rest = pairs-lowered amount (i + 1) j k path arcs flows last now (omega (arith, at)) (omega (arith, within)) none (omega (arith, same))
    (is ∙ ap (λ m. pushed_pair false m amount path last) place) in
    rw (ne_eqb i j (omega (arith, at))) (λ t. own t ∷ rest t)

-- The pairs of the lowered flows are the pairs of the flows, pushed along the path and lowered at the arc.
pub carrying_pairs-lowered : (n : Network) (flows : List ℕ) (j limit : ℕ) (path : List Step) → CanLower n j limit flows path →
    carrying_pairs n (lowered j limit path flows) ≡ lowered_along
    (pushed_pairs false (bottleneck_up_to (flow_on flows j - limit) path) path (carrying_pairs n flows)) (j - 1)
    (bottleneck_up_to (flow_on flows j - limit) path)
carrying_pairs-lowered n flows j limit path can =
    let at = has_arc-within n j can.has in
    let amount : ℕ = bottleneck_up_to (flow_on flows j - limit) path in
    pairs-lowered amount 1 j (j - 1) path n.arcs flows (return_pair n flows) (return_pair n (lowered j limit path flows)) (omega (arith, at.0)) at.1
    (other-rank n j limit flows path can) (AllZip-long _ n.arcs flows can.flow.within)
    (return-pushed amount path n flows (lowered j limit path flows) (value_or_zero-lowered n j limit flows path can))
