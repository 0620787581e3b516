-- Summing the flows at each node in one pass over the arcs.
use Rattle.std.proofs.Common.{ℕ, ◌≡◌, ◌≢◌, ◌+◌, ◌-◌, ◌<◌, ◌≤◌, ◌==◌, List, [], ◌∷◌, length, get_or, set, take, replicate, Bool, true, false, cond, ap, ◌∙◌, sym}
use Rattle.std.proofs.Common.{sum_by, arith, add-zero, ⊎_elim}
use Rattle.std.specs.List.{zip}
use Rattle.std.proofs.lemmas.Bool.{cond_both}
use Rattle.std.proofs.lemmas.Bool.Decides.{eqb_tells}
use Rattle.std.proofs.lemmas.List.{get_or-set_same, get_or-set_other, get_or-replicate, length-replicate, length-set, take_all, get_or_read}
use Rattle.std.proofs.lemmas.List.Sums.{sum_by-cons, sum_by_more, sum_by_more_le_part}
use Rattle.std.proofs.lemmas.Slice.Zip.{AllZip-long, length-zip, get_or-zip}
use Rattle.dmf_state.specs.declared.arc.Arc.{Arc}
use Rattle.dmf_state.specs.Arc.{no_arc}
use Rattle.dmf_node.specs.Node.{IsNode}
use Rattle.dmf_state.specs.Arc.{capacity_sum}
use Rattle.dmf_state.specs.Flow.{AreWithinCapacities}
use Rattle.dmf_state.specs.FlowSums.{AreFlowSums}

-- what an arc adds to the sum at a node
abbrev pub at_node : (Arc → ℕ) → ℕ → Arc × ℕ → ℕ
at_node end v p = cond (end p.0 == v) p.1 0

-- The sums over the first `i` arcs, for each node from node 1 on.
pub record AreSumsSoFar (end : Arc → ℕ) (nodes : ℕ) (arcs : List Arc) (flows : List ℕ) (i : ℕ) (sums : List ℕ) : Type 0 where
  pub one_each : length sums ≡ nodes
  pub each : (k : ℕ) → k < nodes → get_or sums k 0 ≡ sum_by (at_node end (k + 1)) (take i (zip arcs flows))

-- Over no arcs they are zeros.
pub sums-none : (end : Arc → ℕ) (nodes : ℕ) (arcs : List Arc) (flows : List ℕ) → AreSumsSoFar end nodes arcs flows 0 (replicate nodes 0)
sums-none end nodes arcs flows = record { one_each = length-replicate nodes 0; each = λ k h. get_or-replicate nodes k 0 0 h }

-- the sum at a node, with the next arc
pub sum-more : (end : Arc → ℕ) (v : ℕ) (arcs : List Arc) (flows : List ℕ) (i : ℕ) → length flows ≡ length arcs → i < length arcs
    → sum_by (at_node end v) (take (i + 1) (zip arcs flows)) ≡ sum_by (at_node end v) (take i (zip arcs flows)) + cond (end (get_or arcs i no_arc) == v)
    (get_or flows i 0) 0
sum-more end v arcs flows i same h =
    let long : i < length (zip arcs flows) = rw length-zip (omega arith) in
    sum_by_more (at_node end v) (zip arcs flows) i (no_arc, 0) long
    ∙ ap (λ p. sum_by (at_node end v) (take i (zip arcs flows)) + at_node end v p) (get_or-zip arcs flows i (no_arc, 0) h (omega arith))

-- one arc more: its flow is added at its end
pub sums-more : (end : Arc → ℕ) (nodes : ℕ) (arcs : List Arc) (flows : List ℕ) (i : ℕ) (sums : List ℕ) (old : ℕ) → length flows ≡ length arcs → i < length arcs
    → IsNode nodes (end (get_or arcs i no_arc)) → old ≡ get_or sums (end (get_or arcs i no_arc) - 1) old → AreSumsSoFar end nodes arcs flows i sums
    → AreSumsSoFar end nodes arcs flows (i + 1) (set sums (end (get_or arcs i no_arc) - 1) (old + get_or flows i 0))
sums-more end nodes arcs flows i sums old same h node read s =
    let at : ℕ = end (get_or arcs i no_arc) in
    record {
      one_each = length-set sums (at - 1) _ ∙ s.one_each;
      each = λ k below. ⊎_elim
          (λ (here : ((at == k + 1) ≡ true) × (at ≡ k + 1)).
          let place : k ≡ at - 1 = omega (arith, here.1) in
          let within : k < length sums = omega (arith, s.one_each) in
          let was : old ≡ get_or sums k 0 = get_or_read sums k old within (rw place read) 0 in
          rw (sum-more end (k + 1) arcs flows i same h, here.0, ← place)
          (get_or-set_same sums k _ 0 within ∙ ap (λ n. n + get_or flows i 0) (was ∙ s.each k below)))
          (λ (elsewhere : ((at == k + 1) ≡ false) × (at ≢ k + 1)).
          let place : k ≢ at - 1 = λ e. elsewhere.1 (omega (arith, node.from_one)) in
          rw (sum-more end (k + 1) arcs flows i same h, elsewhere.0)
          (get_or-set_other sums (at - 1) k _ 0 place ∙ s.each k below ∙ sym (add-zero _)))
          (eqb_tells at (k + 1));
    }

-- all arcs
pub sums-all : (end : Arc → ℕ) (nodes : ℕ) (arcs : List Arc) (flows sums : List ℕ) (i : ℕ) → length flows ≡ length arcs → length arcs ≤ i
    → AreSumsSoFar end nodes arcs flows i sums → AreFlowSums end nodes arcs flows sums
sums-all end nodes arcs flows sums i same long s = record {
  one_each = s.one_each;
  each = λ k h.
      let whole : take i (zip arcs flows) ≡ zip arcs flows = take_all i (zip arcs flows) (rw length-zip (omega arith)) in
      s.each k (omega (arith, s.one_each)) ∙ ap (sum_by (at_node end (k + 1))) whole;
}

-- the sum of all flows is at most the sum of the capacities
pub flows-le-capacities : (arcs : List Arc) (flows : List ℕ) → AreWithinCapacities arcs flows → sum_by (λ p. p.1) (zip arcs flows) ≤ capacity_sum arcs
flows-le-capacities [] [] w = omega arith
flows-le-capacities (a ∷ arcs) (x ∷ flows) w =
    let f : Arc × ℕ → ℕ = λ p. p.1 in
    let g : Arc → ℕ = λ b. b.cap in
    omega (arith, w.0, flows-le-capacities arcs flows w.1, sum_by-cons f (a, x) (zip arcs flows), sum_by-cons g a arcs)
flows-le-capacities arcs flows w = absurd w

-- a summand that may be absent
pub part-le : (b : Bool) (x : ℕ) → cond b x 0 ≤ x
part-le b x = cond_both b x 0 (λ n. n ≤ x) (λ _. omega arith) (λ _. omega arith)

-- no sum at a node exceeds the sum of the capacities
pub sums-le : (end : Arc → ℕ) (nodes : ℕ) (arcs : List Arc) (flows : List ℕ) (i : ℕ) (sums : List ℕ) (old : ℕ) → AreWithinCapacities arcs flows
    → i < length arcs → IsNode nodes (end (get_or arcs i no_arc)) → old ≡ get_or sums (end (get_or arcs i no_arc) - 1) old
    → AreSumsSoFar end nodes arcs flows i sums → old + get_or flows i 0 ≤ capacity_sum arcs
sums-le end nodes arcs flows i sums old w h node read s =
    let same = AllZip-long _ arcs flows w in
    let k : ℕ = end (get_or arcs i no_arc) - 1 in
    let below : k < nodes = omega (arith, node.from_one, node.to_last) in
    let within : k < length sums = omega (arith, s.one_each) in
    let was : old ≡ get_or sums k 0 = get_or_read sums k old within read 0 in
    let f : Arc × ℕ → ℕ = at_node end (k + 1) in
    let g : Arc × ℕ → ℕ = λ p. p.1 in
    let long : i < length (zip arcs flows) = rw length-zip (omega arith) in
    let part = sum_by_more_le_part f g (zip arcs flows) i (no_arc, 0) long (λ p. part-le (end p.0 == k + 1) p.1) in
    let here : g (get_or (zip arcs flows) i (no_arc, 0)) ≡ get_or flows i 0 = ap g (get_or-zip arcs flows i (no_arc, 0) h (omega arith)) in
    omega (arith, part, here, was, s.each k below, flows-le-capacities arcs flows w)
