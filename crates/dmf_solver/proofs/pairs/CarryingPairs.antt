-- The pairs of links that stand for carrying steps: their steps are the carrying steps, except for self loops.
use Rattle.std.proofs.Common.{ℕ, ◌≡◌, ◌+◌, ◌*◌, List, [], ◌∷◌, ◌++◌, length, refl, ap, sym}
use Rattle.std.proofs.Common.{◌∙◌, subst, arith, ⊎_elim, add-zero, append_assoc, Option}
use Rattle.std.proofs.lemmas.List.{append-nil}
use Rattle.std.proofs.lemmas.List.Elements.{Contains-append_cases, Contains-append_left, Contains-append_right}
use Rattle.dmf_links.specs.declared.pair.Pair.{Pair}
use Rattle.dmf_path.specs.Step.{Step}
use Rattle.dmf_state.specs.declared.arc.Arc.{Arc}
use Rattle.dmf_path.specs.Pair.{pair_steps, steps_from, steps_of}
use Rattle.dmf_path.proofs.paths.Loops.{AreWithoutLoops}
use Rattle.dmf_links.specs.Pair.{ArePairs}
use Rattle.dmf_state.specs.Network.{Network, IsNetwork}
use Rattle.dmf_state.specs.Flow.{AreWithinCapacities}
use Rattle.dmf_solver.specs.Drain.{carried, carried_from, value_or_zero, return_link, carrying_steps}
use Rattle.dmf_solver.specs.CarryingNetwork.{carrying_from, return_pair, carrying_pairs}
use Rattle.dmf_solver.specs.Pairs.{Along}
use Rattle.dmf_state.proofs.Changing.{flow_at-le}
use Rattle.dmf_solver.proofs.pairs.ArcPairs.{PairsByArc, without_loops-by_arc, length-pairs, ArePairs-by_arc}
use Rattle.dmf_solver.proofs.draining.CarryingSteps.{by_carried, carried-each}

-- the carrying pairs, arc by arc
abbrev pub by_carrying_pair : PairsByArc
by_carrying_pair = record {
  along = λ arc flow. flow;
  against = λ arc flow. 0;
  all = carrying_from;
  none = λ flows. refl;
  short = λ arc arcs. refl;
  more = λ arc arcs flow flows. refl;
  link = Along;
  reads = λ arc flow. refl;
  fits = λ arc flow within. omega arith;
}

-- how the steps of a last pair are added to those of a list
steps-push : (j : ℕ) (pairs : List (Option Pair)) (last : Option Pair)
    → steps_from j (pairs ++ last ∷ []) ≡ steps_from j pairs ++ pair_steps (j + length pairs) last
steps-push j [] last = append-nil (pair_steps j last) ∙ ap (λ i. pair_steps i last) (sym (add-zero j))
steps-push j (p ∷ pairs) last =
    let place : j + 1 + length pairs ≡ j + length (p ∷ pairs) = omega arith in
    ap (λ steps. pair_steps j p ++ steps) (steps-push (j + 1) pairs last ∙ ap (λ i. steps_from (j + 1) pairs ++ pair_steps i last) place)
    ∙ sym (append_assoc (pair_steps j p) (steps_from (j + 1) pairs) (pair_steps (j + length (p ∷ pairs)) last))

-- More steps after both lists change nothing.
without_loops-append : (steps fewer after : List Step) → AreWithoutLoops steps fewer → AreWithoutLoops (steps ++ after) (fewer ++ after)
without_loops-append steps fewer after are = record {
  within = λ s c. ⊎_elim (λ own. Contains-append_left steps after s (are.within s own)) (Contains-append_right steps after s)
      (Contains-append_cases fewer after s c);
  others = λ s c apart. ⊎_elim (λ own. Contains-append_left fewer after s (are.others s own apart)) (Contains-append_right fewer after s)
      (Contains-append_cases steps after s c);
}

-- The steps of the pairs are the carrying steps that do not come back.
pub carrying-without_loops : (n : Network) (flows : List ℕ) → length flows ≡ length n.arcs
    → AreWithoutLoops (carrying_steps n flows) (steps_of (carrying_pairs n flows))
carrying-without_loops n flows same =
    let rank : 2 * (1 + length n.arcs) ≡ 2 * length n.arcs + 2 = omega arith in
    let last : pair_steps (1 + length n.arcs) (return_pair n flows) ≡ return_link n flows = rw rank (append-nil (return_link n flows)) in
    let arcs = without_loops-by_arc by_carrying_pair by_carried
    (λ j arc flow. append-nil (carried j arc flow))
    (λ j arc flow s loop c. carried-each (λ t. t.from ≡ t.to) j arc flow s (λ _. loop) c)
    n.arcs flows in
    subst (AreWithoutLoops (carrying_steps n flows))
    (sym (steps-push 1 (carrying_from n.arcs flows) (return_pair n flows)
    ∙ ap (λ count. steps_of (carrying_from n.arcs flows) ++ pair_steps (1 + count) (return_pair n flows)) (length-pairs by_carrying_pair n.arcs flows same)
    ∙ ap (λ steps. steps_of (carrying_from n.arcs flows) ++ steps) last))
    (without_loops-append (carried_from 1 n.arcs flows) (steps_of (carrying_from n.arcs flows)) (return_link n flows) arcs)

-- The pairs of flows are pairs.
pub ArePairs-carrying : (n : Network) (flows : List ℕ) → IsNetwork n → AreWithinCapacities n.arcs flows → ArePairs n.nodes (carrying_pairs n flows)
ArePairs-carrying n flows network within =
    let out = flow_at-le (λ (a : Arc). a.tail) n.arcs flows n.source within in
    ArePairs-by_arc by_carrying_pair n flows (value_or_zero n flows) network within (omega (arith, out, network.capacities))
