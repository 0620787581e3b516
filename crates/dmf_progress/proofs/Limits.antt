-- The capacities of the arcs that leave a set of nodes, summed arc by arc; and that no flow has a larger value than the lesser of two sums.
use Rattle.std.proofs.Common.{ℕ, ◌≡◌, ◌+◌, ◌^◌, ◌<◌, ◌≤◌, ◌==◌, ◌&&◌, List, length, get_or, take, Bool, true, false, not, cond, sum_by, refl, ap}
use Rattle.std.proofs.Common.{sym, ◌∙◌, arith, min, ⊎_elim, eq-eqb}
use Rattle.std.proofs.Math.Nat.{min-eq_left, min-eq_right}
use Rattle.std.proofs.lemmas.Bool.{ne_eqb, cases_lt}
use Rattle.std.proofs.lemmas.Int.{ints}
use Rattle.std.proofs.lemmas.List.{take_all}
use Rattle.std.proofs.lemmas.List.Sums.{sum_by_more, sum_by_more_le_part}
use Rattle.dmf_state.specs.declared.arc.Arc.{Arc}
use Rattle.dmf_state.specs.Arc.{no_arc, capacity_sum}
use Rattle.dmf_state.specs.Network.{Network, IsNetwork}
use Rattle.dmf_state.specs.Cut.{cut_capacity}
use Rattle.dmf_state.proofs.Summing.{part-le}
use Rattle.dmf_solver.proofs.cuts.Crossing.{value-across}
use Rattle.dmf_solver.proofs.cuts.MaxFlowMinCut.{leaving-le_capacity}
use Rattle.dmf_progress.specs.Limit.{leaving, entering, IsLimit}

-- the most that an arc carries out of a set of nodes
abbrev pub carried_out : (ℕ → Bool) → Arc → ℕ
carried_out has arc = cond (has arc.tail && not (has arc.head)) arc.cap 0

-- The sum so far and the next capacity are at most the sum of all capacities.
pub next-small : (has : ℕ → Bool) (arcs : List Arc) (i sum x : ℕ) → i < length arcs → x ≡ carried_out has (get_or arcs i no_arc)
    → sum ≡ sum_by (carried_out has) (take i arcs) → capacity_sum arcs < 2 ^ 64 → sum + x < 2 ^ 64
next-small has arcs i sum x h x_is is small =
    let f : Arc → ℕ = carried_out has in
    let g : Arc → ℕ = λ a. a.cap in
    let part = sum_by_more_le_part f g arcs i no_arc h (λ a. part-le (has a.tail && not (has a.head)) a.cap) in
    let whole = part-le (has (get_or arcs i no_arc).tail && not (has (get_or arcs i no_arc).head)) (get_or arcs i no_arc).cap in
    omega (arith, part, whole, is, small, x_is)

-- one more arc
pub sum-next : (has : ℕ → Bool) (arcs : List Arc) (i sum x : ℕ) → i < length arcs → x ≡ carried_out has (get_or arcs i no_arc)
    → sum ≡ sum_by (carried_out has) (take i arcs) → sum + x ≡ sum_by (carried_out has) (take (i + 1) arcs)
sum-next has arcs i sum x h x_is is = omega (arith, is, x_is, sum_by_more (carried_out has) arcs i no_arc h)

-- all arcs
pub sum-whole : (has : ℕ → Bool) (arcs : List Arc) (i sum : ℕ) → length arcs ≤ i → sum ≡ sum_by (carried_out has) (take i arcs)
    → sum ≡ sum_by (carried_out has) arcs
sum-whole has arcs i sum h is = is ∙ ap (sum_by (carried_out has)) (take_all i arcs h)

-- The capacity of the arcs that leave a set with the source and without the sink bounds the value of every flow.
pub cut-limit : (n : Network) (has : ℕ → Bool) → IsNetwork n → has n.source ≡ true → has n.sink ≡ false → IsLimit n (cut_capacity n.arcs has)
cut-limit n has network source sink flows flow =
    let across = value-across n flows has network flow.conserved source sink in
    omega (arith, ints, across, leaving-le_capacity n.arcs flows has flow.within)

-- the arcs that leave the source
pub leaving-limit : (n : Network) → IsNetwork n → IsLimit n (leaving n.arcs n.source)
leaving-limit n network =
    cut-limit n (λ u. u == n.source) network (eq-eqb n.source n.source refl) (ne_eqb n.sink n.source (λ e. network.two_terminals (sym e)))

-- the arcs that enter the sink
pub entering-limit : (n : Network) → IsNetwork n → IsLimit n (entering n.arcs n.sink)
entering-limit n network =
    cut-limit n (λ u. not (u == n.sink)) network (ap not (ne_eqb n.source n.sink network.two_terminals)) (ap not (eq-eqb n.sink n.sink refl))

-- the lesser of two bounds
pub lesser-limit : (n : Network) (a b : ℕ) → IsLimit n a → IsLimit n b → IsLimit n (min a b)
lesser-limit n a b first second flows flow = ⊎_elim
    (λ (lt : a < b).
    let le : a ≤ b = omega (arith, lt) in
    rw (min-eq_left le) (first flows flow))
    (λ (le : b ≤ a). rw (min-eq_right le) (second flows flow))
    (cases_lt a b)

-- the lesser of both sums, given what each of them is
pub lesser-is : (n : Network) (arcs : List Arc) (source sink out into least : ℕ) → arcs ≡ n.arcs → source ≡ n.source → sink ≡ n.sink
    → out ≡ leaving arcs source → into ≡ entering arcs sink → least ≡ min out into → least ≡ min (leaving n.arcs n.source) (entering n.arcs n.sink)
lesser-is n arcs source sink out into least arcs_is source_is sink_is out_is into_is least_is =
    let first : out ≡ leaving n.arcs n.source = out_is ∙ ap (λ l. leaving l source) arcs_is ∙ ap (leaving n.arcs) source_is in
    let second : into ≡ entering n.arcs n.sink = into_is ∙ ap (λ l. entering l sink) arcs_is ∙ ap (entering n.arcs) sink_is in
    least_is ∙ ap (λ x. min x into) first ∙ ap (min (leaving n.arcs n.source)) second
