-- Making chains in one pass over the arcs.
use Rattle.std.proofs.Common.{ℕ, ◌≡◌, ◌≢◌, ◌+◌, ◌-◌, ◌<◌, ◌≤◌, Bool, List, length, get_or, set, true, false, ap, sym, ◌∙◌, arith, ⊎_elim}
use Rattle.std.specs.List.{All}
use Rattle.std.proofs.lemmas.Bool.{cases_eq}
use Rattle.std.proofs.lemmas.Bool.Decides.{nat_tests}
use Rattle.std.proofs.lemmas.List.{get_or-set_same, get_or-set_other, length-set, get_or_read}
use Rattle.dmf_node.specs.Node.{IsNode}
use Rattle.dmf_state.specs.declared.arc.Arc.{Arc}
use Rattle.dmf_state.specs.Arc.{IsArc, no_arc}
use Rattle.dmf_state.specs.Network.{Network, has_arc}
use Rattle.dmf_vital.specs.Chains.{IsLastBelow}
use Rattle.dmf_vital.specs.Hop.{from_of, to_of}

-- The chains of the first `k` arcs.
pub record AreChainsSoFar (against : Bool) (nodes : ℕ) (arcs : List Arc) (k : ℕ) (last before : List ℕ) : Type 0 where
  pub one_a_node : length last ≡ nodes
  pub one_an_arc : length before ≡ length arcs
  pub last_is : (v : ℕ) → IsNode nodes v → IsLastBelow against arcs v (k + 1) (get_or last (v - 1) 0)
  pub before_is : (i : ℕ) → i < k → IsLastBelow against arcs (from_of against (get_or arcs i no_arc)) (i + 1) (get_or before i 0)

-- One arc more: it is the last from its node.
pub chains-more : (against : Bool) (nodes : ℕ) (arcs : List Arc) (k : ℕ) (last before : List ℕ) → k < length arcs
    → IsNode nodes (from_of against (get_or arcs k no_arc)) → AreChainsSoFar against nodes arcs k last before
    → AreChainsSoFar against nodes arcs (k + 1) (set last (from_of against (get_or arcs k no_arc) - 1) (k + 1))
    (set before k (get_or last (from_of against (get_or arcs k no_arc) - 1) 0))
chains-more against nodes arcs k last before h node so_far =
    let v : ℕ = from_of against (get_or arcs k no_arc) in
    let place : k + 1 - 1 ≡ k = omega arith in
    let here : from_of against (get_or arcs (k + 1 - 1) no_arc) ≡ v = ap (λ i. from_of against (get_or arcs i no_arc)) place in
    record {
      one_a_node = length-set last (v - 1) (k + 1) ∙ so_far.one_a_node;
      one_an_arc = length-set before k _ ∙ so_far.one_an_arc;
      last_is = λ u other. ⊎_elim
          (λ (same : u ≡ v).
          let now : get_or (set last (v - 1) (k + 1)) (u - 1) 0 ≡ k + 1 =
          ap (λ w. get_or (set last (v - 1) (k + 1)) (w - 1) 0) same
          ∙ get_or-set_same last (v - 1) (k + 1) 0 (omega (arith, node.from_one, node.to_last, so_far.one_a_node)) in
          rw now (record {
            below = omega arith;
            own = λ some. here ∙ sym same;
            none_between = λ i more less. absurd (omega (arith, more, less));
          }))
          (λ (apart : u ≢ v).
          let old = so_far.last_is u other in
          let now : get_or (set last (v - 1) (k + 1)) (u - 1) 0 ≡ get_or last (u - 1) 0 =
          get_or-set_other last (v - 1) (u - 1) (k + 1) 0 (λ e. apart (omega (arith, e, node.from_one, other.from_one))) in
          rw now (record {
            below = omega (arith, old.below);
            own = old.own;
            none_between = λ i more less. ⊎_elim
                (λ (new : i ≡ k + 1) (e : from_of against (get_or arcs (i - 1) no_arc) ≡ u).
                apart (sym e ∙ ap (λ m. from_of against (get_or arcs (m - 1) no_arc)) new ∙ here))
                (λ (before : i ≢ k + 1). old.none_between i more (omega (arith, less, before)))
                (cases_eq i (k + 1));
          }))
          (cases_eq u v);
      before_is = λ i less. ⊎_elim
          (λ (same : i ≡ k).
          let now : get_or (set before k (get_or last (v - 1) 0)) i 0 ≡ get_or last (v - 1) 0 =
          ap (λ m. get_or (set before k (get_or last (v - 1) 0)) m 0) same ∙ get_or-set_same before k _ 0 (omega (arith, h, so_far.one_an_arc)) in
          rw (now, same) (so_far.last_is v node))
          (λ (apart : i ≢ k).
          rw (get_or-set_other before k i (get_or last (v - 1) 0) 0 apart) (so_far.before_is i (omega (arith, less, apart))))
          (cases_eq i k);
    }

-- Both ends of a step are nodes,
pub node-from : (against : Bool) (nodes : ℕ) (arc : Arc) → IsArc nodes arc → IsNode nodes (from_of against arc)
node-from true nodes arc is = is.head
node-from false nodes arc is = is.tail

pub node-to : (against : Bool) (nodes : ℕ) (arc : Arc) → IsArc nodes arc → IsNode nodes (to_of against arc)
node-to true nodes arc is = is.tail
node-to false nodes arc is = is.head

-- so the code may put the next arc into its chain.
pub chains-next : (against : Bool) (nodes : ℕ) (arcs : List Arc) (k v old : ℕ) (last before : List ℕ) → k < length arcs → All (IsArc nodes) arcs
    → v ≡ from_of against (get_or arcs k no_arc) → old ≡ get_or last (v - 1) old → AreChainsSoFar against nodes arcs k last before
    → AreChainsSoFar against nodes arcs (k + 1) (set last (v - 1) (k + 1)) (set before k old)
chains-next against nodes arcs k v old last before h all is read so_far =
    let node = node-from against nodes (get_or arcs k no_arc) (all k no_arc h) in
    let within : v - 1 < length last = omega (arith, is, node.from_one, node.to_last, so_far.one_a_node) in
    let first : old ≡ get_or last (from_of against (get_or arcs k no_arc) - 1) 0 =
    get_or_read last (v - 1) old within read 0 ∙ ap (λ u. get_or last (u - 1) 0) is in
    rw (is, first) (chains-more against nodes arcs k last before h node so_far)

-- There is an arc of each number from 1 to the number of arcs.
pub has-arc : (n : Network) (k : ℕ) → 0 < k → k ≤ length n.arcs → has_arc n k ≡ true
has-arc n k some most = grind (arith, nat_tests)
