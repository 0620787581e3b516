-- An extended network, and the arcs that are added to it.
use Rattle.std.proofs.Common.{ℕ, ◌≡◌, ◌+◌, ◌-◌, ◌&&◌, nat_lt, Bool, true, false, not, cond, List, [], ◌∷◌, ◌++◌, length, refl, ap, sym, ◌∙◌, subst, arith, pos}
use Rattle.std.proofs.lemmas.Int.{ints}
use Rattle.std.proofs.Math.Bool.{and-true}
use Rattle.std.proofs.lemmas.Bool.Decides.{nat_tests}
use Rattle.std.proofs.lemmas.List.{get_or_append_left, get_or_push, length_push}
use Rattle.std.proofs.lemmas.List.Sums.{sum_by_push}
use Rattle.dmf_state.specs.declared.arc.Arc.{Arc}
use Rattle.dmf_state.specs.Arc.{IsArc, no_arc, open_arc}
use Rattle.dmf_state.specs.Cut.{IsMinimumCut, cut_capacity}
use Rattle.dmf_state.specs.Flow.{flow_value}
use Rattle.dmf_state.specs.Network.{Network, IsNetwork, arc_number, has_arc}
use Rattle.dmf_state.specs.NetworkState.{with_last_arc}
use Rattle.dmf_state.proofs.ChangedArc.{has_arc-within}
use Rattle.dmf_solver.specs.Greatest.{IsGreatest}
use Rattle.dmf_vital.specs.Extended.{IsExtended, KeepsArcs, HasDetours, IsPlaced, with_detour, with_detours}
use Rattle.dmf_vital.specs.GreatestValue.{IsGreatestValue}
use Rattle.dmf_vital.specs.Without.{with_new_arc}
use Rattle.dmf_vital.proofs.NewArc.{none-inside, part}
use Rattle.dmf_vital.proofs.Values.{some-value, value-of_greatest}

-- ---- one more arc

-- The other arcs stay under their numbers,
pub keeps-last : (m : Network) (arc : Arc) → KeepsArcs m (with_last_arc m arc)
keeps-last m arc i there =
    let within = has_arc-within m i there in
    let long = length_push m.arcs arc in
    let here : has_arc (with_last_arc m arc) i ≡ true = grind (arith, nat_tests, within.0, within.1, long) in
    (here, get_or_append_left m.arcs (arc ∷ []) no_arc (i - 1) within.1)

pub keeps-then : (a b c : Network) → KeepsArcs a b → KeepsArcs b c → KeepsArcs a c
keeps-then a b c first second i there =
    let one = first i there in
    let two = second i one.0 in
    (two.0, two.1 ∙ one.1)

-- and the new one has the next number.
pub has-last : (m : Network) (arc : Arc) (j : ℕ) → j ≡ length m.arcs + 1 → has_arc (with_last_arc m arc) j ≡ true
has-last m arc j is = let long = length_push m.arcs arc in grind (arith, nat_tests, long, is)

pub last-is : (m : Network) (arc : Arc) (j : ℕ) → j ≡ length m.arcs + 1 → arc_number (with_last_arc m arc) j ≡ arc
last-is m arc j is = get_or_push m.arcs arc no_arc (j - 1) (omega (arith, is))

-- ---- two more arcs, by a node

-- one of two arcs in a row from inside to outside leads out
one-leads : (x : Bool) (c : ℕ) → cond (true && not x) c 0 + cond (x && not false) c 0 ≡ c
one-leads true c = omega arith
one-leads false c = omega arith

-- Each cut has this capacity more.
cut-detour : (m : Network) (v cap : ℕ) (has : ℕ → Bool) → has m.source ≡ true → has m.sink ≡ false
    → cut_capacity (with_detour m v cap).arcs has ≡ cut_capacity m.arcs has + cap
cut-detour m v cap has inside outside =
    let first = sum_by_push (part has) m.arcs (open_arc m.source v cap) in
    let second = sum_by_push (part has) (with_last_arc m (open_arc m.source v cap)).arcs (open_arc v m.sink cap) in
    let there : part has (open_arc m.source v cap) ≡ cond (true && not (has v)) cap 0 = ap (λ b. cond (b && not (has v)) cap 0) inside in
    let back : part has (open_arc v m.sink cap) ≡ cond (has v && not false) cap 0 = ap (λ b. cond (has v && not b) cap 0) outside in
    omega (arith, first, second, there, back, one-leads (has v) cap)

pub keeps-detour : (m : Network) (v cap : ℕ) → KeepsArcs m (with_detour m v cap)
keeps-detour m v cap =
    let one : Network = with_last_arc m (open_arc m.source v cap) in
    keeps-then m one (with_detour m v cap) (keeps-last m (open_arc m.source v cap)) (keeps-last one (open_arc v m.sink cap))

-- ---- four more arcs, for a new arc

pub keeps-detours : (m : Network) (arc : Arc) → KeepsArcs m (with_detours m arc)
keeps-detours m arc =
    let one : Network = with_detour m arc.tail arc.cap in
    keeps-then m one (with_detours m arc) (keeps-detour m arc.tail arc.cap) (keeps-detour one arc.head arc.cap)

module _ (n m : Network) (arc : Arc) (count : ℕ) (extended : IsExtended n m count) where
  pub extended-detours : IsExtended n (with_detours m arc) count
  extended-detours = record {
    nodes = extended.nodes;
    source = extended.source;
    sink = extended.sink;
    total = extended.total + arc.cap + arc.cap;
    cuts = λ has inside outside.
        let source : has m.source ≡ true = ap has extended.source ∙ inside in
        let sink : has m.sink ≡ false = ap has extended.sink ∙ outside in
        omega (
          arith,
          cut-detour m arc.tail arc.cap has source sink,
          cut-detour (with_detour m arc.tail arc.cap) arc.head arc.cap has source sink,
          extended.cuts has inside outside,
        );
  }

  pub has-detours : (first : ℕ) → first ≡ length m.arcs + 1 → HasDetours n (with_detours m arc) first arc
  has-detours first is =
      let to_tail : Arc = open_arc m.source arc.tail arc.cap in
      let one : Network = with_last_arc m to_tail in
      let from_tail : Arc = open_arc arc.tail m.sink arc.cap in
      let two : Network = with_last_arc one from_tail in
      let to_head : Arc = open_arc m.source arc.head arc.cap in
      let three : Network = with_last_arc two to_head in
      let from_head : Arc = open_arc arc.head m.sink arc.cap in
      let later : KeepsArcs one (with_detours m arc) =
      keeps-then one two (with_detours m arc) (keeps-last one from_tail)
      (keeps-then two three (with_detours m arc) (keeps-last two to_head) (keeps-last three from_head)) in
      let kept = later first (has-last m to_tail first is) in
      let last : first + 3 ≡ length three.arcs + 1 =
      omega (arith, is, length_push m.arcs to_tail, length_push one.arcs from_tail, length_push two.arcs to_head) in
      record {
        first_there = kept.0;
        last_there = has-last three from_head (first + 3) last;
        to_tail = kept.1 ∙ last-is m to_tail first is ∙ ap (λ v. open_arc v arc.tail arc.cap) extended.source;
        from_head = last-is three from_head (first + 3) last ∙ ap (λ v. open_arc arc.head v arc.cap) extended.sink;
      }

  pub long-detours : length (with_detours m arc).arcs ≡ length m.arcs + 4
  long-detours =
      let one : List Arc = m.arcs ++ open_arc m.source arc.tail arc.cap ∷ [] in
      let two : List Arc = one ++ open_arc arc.tail m.sink arc.cap ∷ [] in
      let three : List Arc = two ++ open_arc m.source arc.head arc.cap ∷ [] in
      omega (
        arith,
        length_push m.arcs (open_arc m.source arc.tail arc.cap),
        length_push one (open_arc arc.tail m.sink arc.cap),
        length_push two (open_arc m.source arc.head arc.cap),
        length_push three (open_arc arc.head m.sink arc.cap),
      )

-- ---- a new arc that the network can take

pub network-before : (n : Network) (arc : Arc) → IsNetwork (with_last_arc n arc) → IsNetwork n
network-before n arc network = record {
  at_least_two_nodes = network.at_least_two_nodes;
  at_most_nodes = network.at_most_nodes;
  source = network.source;
  sink = network.sink;
  two_terminals = network.two_terminals;
  arcs = λ k d h.
      subst (IsArc n.nodes) (get_or_append_left n.arcs (arc ∷ []) d k h) (network.arcs k d (omega (arith, h, length_push n.arcs arc)));
  at_most_arcs = omega (arith, network.at_most_arcs, length_push n.arcs arc);
  capacities = omega (arith, network.capacities, sum_by_push (λ (a : Arc). a.cap) n.arcs arc);
}

-- what an arc without capacity brings to a cut, and one that does not lead out of it
none-out : (b : Bool) (c : ℕ) → false ≡ (nat_lt 0 c && b) → cond b c 0 ≡ 0
none-out true c h =
    let none : nat_lt 0 c ≡ false = sym (and-true (nat_lt 0 c)) ∙ sym h in
    grind (arith, nat_tests, none)
none-out false c h = refl

-- If it does not lead out of a minimum cut, it needs no arcs.
pub placed-none : (n m : Network) (flows : List ℕ) (has : ℕ → Bool) (arc new : Arc) → IsGreatest n flows → IsMinimumCut n has
    → pos (cut_capacity n.arcs has) ≡ flow_value n flows → new ≡ open_arc arc.tail arc.head arc.cap → IsNetwork (with_last_arc n new)
    → false ≡ (nat_lt 0 arc.cap && (has arc.tail && not (has arc.head))) → IsPlaced n m arc 0
placed-none n m flows has arc new greatest least capacity same takes inside =
    let fits : IsNetwork (with_new_arc n arc) = subst (λ a. IsNetwork (with_last_arc n a)) same takes in
    let network = network-before n (open_arc arc.tail arc.head arc.cap) fits in
    let value = value-of_greatest n flows network greatest in
    let is : IsGreatestValue n value.0 = record { flows = flows; greatest = greatest; value_is = value.1 } in
    let now = some-value (with_new_arc n arc) fits in
    let tight : cut_capacity n.arcs has ≡ value.0 = omega (arith, ints, capacity, value.1) in
    record {
      fits = fits;
      detours = λ some. absurd (some refl);
      none = λ _. record {
        before = now.0;
        after = value.0;
        greatest_before = now.1;
        greatest_after = is;
        difference = omega (
          arith,
          none-inside n arc value.0 now.0 has fits least.cut tight (none-out (has arc.tail && not (has arc.head)) arc.cap inside) is now.1,
        );
      };
    }

-- If it has them, they tell its gain.
pub placed-some : (n m : Network) (arc new : Arc) (first count : ℕ) → IsExtended n m count → new ≡ open_arc arc.tail arc.head arc.cap → IsNetwork (with_last_arc n new)
    → first ≡ length m.arcs + 1 → IsPlaced n (with_detours m arc) arc first
placed-some n m arc new first count extended same takes is = record {
  fits = subst (λ a. IsNetwork (with_last_arc n a)) same takes;
  detours = λ _. has-detours n m arc count extended first is;
  none = λ e. absurd (omega (arith, e, is));
}

-- ---- what stays so

pub placed-kept : (n m after : Network) (arc : Arc) (first : ℕ) → KeepsArcs m after → IsPlaced n m arc first → IsPlaced n after arc first
placed-kept n m after arc first keeps placed = record {
  fits = placed.fits;
  detours = λ some.
      let was = placed.detours some in
      let one = keeps first was.first_there in
      let last = keeps (first + 3) was.last_there in
      record {
        first_there = one.0;
        last_there = last.0;
        to_tail = one.1 ∙ was.to_tail;
        from_head = last.1 ∙ was.from_head;
      };
  none = placed.none;
}
