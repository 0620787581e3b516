-- Lemmas on the pairs of arcs, and on the entries that are kept of them.
use Rattle.std.proofs.Common.{◌≡◌, ℕ, zero, suc, ◌+◌, ◌-◌, ◌<◌, ◌≤◌, ◌^◌, ◌⊎◌, min, List, [], ◌∷◌, ◌++◌, length, take, drop, get_or, map, replicate, true}
use Rattle.std.proofs.Common.{false, ◌||◌, if◌then◌else◌, Option, Some, None, is_some, Ok, Err, refl, sym, ap, ◌∙◌, subst, ⊎_elim, arith, drop-cons}
use Rattle.std.proofs.lemmas.Bool.{cases_Bool, false_from_ne_true, cond-true, cond-false, le-leb, lt-leb, or_left, or_right, true≢false}
use Rattle.std.proofs.lemmas.List.{take_more}
use Rattle.std.proofs.lemmas.List.Elements.{All-weaker}
use Rattle.std.proofs.lemmas.List.Sorted.{list_any-IsPermutation}
use Rattle.std.proofs.lemmas.List.Sums.{sum_by_push, sum_by_more_le_part}
use Rattle.dmf_state.specs.declared.arc.Arc.{Arc}
use Rattle.std.specs.List.{All, list_any}
use Rattle.std.specs.List.Sorted.{IsPermutation}
use Rattle.dmf_state.specs.Arc.{IsArc, no_arc, capacity_sum}
use Rattle.dmf_state.specs.Flow.{AreWithinCapacities}
use Rattle.dmf_text.specs.declared.fault.SolutionFaultKind.{SolutionFaultKind}
use Rattle.dmf_text.specs.declared.pairs.PairFlow.{PairFlow}
use Rattle.dmf_text.specs.declared.pairs.PairTable.{PairTable}
use Rattle.dmf_text.specs.PairOrder.{keeper_of}
use Rattle.dmf_text.specs.Solution.{NodePair, same_pair, ends, has_pair, pair_capacity, pair_flow, Facts, flow_fits, put_behind}
use Rattle.dmf_text.specs.SolutionReading.{known_of, cap_of, flow_of, HasSmallEnds, KeepsCounted, KeepsPairs, Updates, AddsFlow, CannotAdd}
use Rattle.dmf_text.proofs.PlaceLemmas.{same-is, same-self, some-kept, none-counted}

-- ---- pairs

-- no arc has a pair with a number that is too large to be a node
none-same : (arc : Arc) (pair : NodePair) → HasSmallEnds arc → (2 ^ 32 ≤ pair.0) ⊎ (2 ^ 32 ≤ pair.1) → same_pair (ends arc) pair ≡ false
none-same arc pair small large = false_from_ne_true _ (λ same.
    let is = same-is (ends arc) pair same in
    let tail : arc.tail ≡ pair.0 = ap (λ (p : NodePair). p.0) is in
    let head : arc.head ≡ pair.1 = ap (λ (p : NodePair). p.1) is in
    ⊎_elim (λ (past : 2 ^ 32 ≤ pair.0). omega arith) (λ (past : 2 ^ 32 ≤ pair.1). omega arith) large)

-- No arc is between nodes past 32 bits.
pub none-large : (arcs : List Arc) (pair : NodePair) → All HasSmallEnds arcs → (2 ^ 32 ≤ pair.0) ⊎ (2 ^ 32 ≤ pair.1) → has_pair arcs pair ≡ false
none-large [] pair small large = refl
none-large (arc ∷ arcs) pair small large =
    let here = none-same arc pair (small 0 arc (omega arith)) large in
    let later = none-large arcs pair (λ k d h. small (suc k) d (omega (arith, h))) large in
    rw (here, later) refl

-- the ends of a network's arcs are small enough
pub small-ends : (nodes : ℕ) (arcs : List Arc) → nodes ≤ 2 ^ 24 → All (IsArc nodes) arcs → All HasSmallEnds arcs
small-ends nodes arcs few are = All-weaker (IsArc nodes) HasSmallEnds (λ (arc : Arc) (is : IsArc nodes arc).
    let tail = is.tail.to_last in
    let head = is.head.to_last in
    (omega (arith, few, tail), omega (arith, few, head))) arcs are

-- one more arc adds its capacity to that between its ends.
pub capacity-more : (arcs : List Arc) (arc : Arc) (pair : NodePair)
    → pair_capacity (arcs ++ arc ∷ []) pair ≡ pair_capacity arcs pair + (if same_pair (ends arc) pair then arc.cap else 0)
capacity-more arcs arc pair = sum_by_push (λ a. if same_pair (ends a) pair then a.cap else 0) arcs arc

-- one more line
flow-more : (flows : List (NodePair × ℕ)) (pair : NodePair) (flow : ℕ) (q : NodePair)
    → pair_flow (flows ++ (pair, flow) ∷ []) q ≡ pair_flow flows q + (if same_pair pair q then flow else 0)
flow-more flows pair flow q = sum_by_push (λ said. if same_pair said.0 q then said.1 else 0) flows (pair, flow)

bad-at : (arcs : List Arc) (facts : Facts) (pair : NodePair) (flow : ℕ) (kind : SolutionFaultKind) (known : Option PairFlow)
    → is_some known ≡ has_pair arcs pair → cap_of known ≡ pair_capacity arcs pair → flow_of known ≡ pair_flow facts.flows pair
    → CannotAdd known flow kind → flow_fits arcs facts pair flow ≡ Err kind
bad-at arcs facts pair flow kind None has cap before cannot = rw (sym has) (ap (λ k. Err k) (sym cannot))
bad-at arcs facts pair flow kind (Some known) has cap before cannot =
    let over = cannot.0 in
    let past : pair_capacity arcs pair < pair_flow facts.flows pair + flow = omega (arith, cap, before, over) in
    rw (sym has, lt-leb (pair_flow facts.flows pair + flow) (pair_capacity arcs pair) past) (ap (λ k. Err k) (sym cannot.1))

-- ---- the entries of pairs

any-ends : (arcs : List Arc) (pair : NodePair) → list_any (λ p. same_pair p pair) (map ends arcs) ≡ has_pair arcs pair
any-ends [] pair = refl
any-ends (arc ∷ arcs) pair = ap (λ b. same_pair (ends arc) pair || b) (any-ends arcs pair)

-- an arc has its own pair
has-own : (arcs : List Arc) (i : ℕ) (d : Arc) → i < length arcs → has_pair arcs (ends (get_or arcs i d)) ≡ true
has-own [] i d below = absurd (omega (arith, below))
has-own (arc ∷ arcs) zero d below = or_left _ _ (same-self (ends arc))
has-own (arc ∷ arcs) (suc i) d below = or_right _ _ (has-own arcs i d (omega (arith, below)))

some-of : (o : Option PairFlow) → is_some o ≡ true → (known : PairFlow) × (o ≡ Some known)
some-of None none = absurd (true≢false (sym none))
some-of (Some known) some = (known, refl)

-- No arc is counted yet.
pub keeps-none : (arcs : List Arc) (pairs : PairTable) → IsPermutation (map ends arcs) pairs.ends.items
    → pairs.known.items ≡ replicate (length pairs.ends.items) (record { cap = 0; flow = 0 }) → KeepsCounted arcs [] (λ _. 0) pairs
keeps-none arcs pairs same none =
    let kept : NodePair → ℕ = keeper_of pairs.ends.items pairs.numbers.items in
    record {
      there = λ pair. some-kept (map ends pairs.arcs.now) pairs.ends.items pairs.numbers.items pair pairs.known.items pairs.numbered pairs.one_each
          ∙ sym (list_any-IsPermutation (λ p. same_pair p pair) (map ends arcs) pairs.ends.items same) ∙ any-ends arcs pair;
      caps = λ pair. rw none (none-counted (length pairs.ends.items) (kept pair)).0;
      flows = λ pair. rw none (none-counted (length pairs.ends.items) (kept pair)).1;
    }

-- What holds of a pair, and of each other one, holds of all.
of-each : (P : NodePair → Type 0) (pair : NodePair) → P pair → ((q : NodePair) → same_pair pair q ≡ false → P q) → (q : NodePair) → P q
of-each P pair own others q = ⊎_elim (λ here. subst P (same-is pair q here) own) (others q) (cases_Bool (same_pair pair q))

-- The entry of one pair changes, and no other.
keeps-updated : (arcs counted later : List Arc) (flow more : NodePair → ℕ) (old new : PairTable) (pair : NodePair) (known : PairFlow)
    → KeepsCounted arcs counted flow old → Updates old pair known new → has_pair arcs pair ≡ true
    → known.cap ≡ pair_capacity later pair → known.flow ≡ more pair
    → ((q : NodePair) → same_pair pair q ≡ false → pair_capacity counted q ≡ pair_capacity later q)
    → ((q : NodePair) → same_pair pair q ≡ false → flow q ≡ more q)
    → KeepsCounted arcs later more new
keeps-updated arcs counted later flow more old new pair known kept updates has cap flow_is cap-others flow-others = record {
  there = of-each (λ q. is_some (known_of new q) ≡ has_pair arcs q) pair (ap is_some updates.here ∙ sym has)
      (λ q other. ap is_some (updates.others q other) ∙ kept.there q);
  caps = of-each (λ q. cap_of (known_of new q) ≡ pair_capacity later q) pair (ap cap_of updates.here ∙ cap)
      (λ q other. ap cap_of (updates.others q other) ∙ kept.caps q ∙ cap-others q other);
  flows = of-each (λ q. flow_of (known_of new q) ≡ more q) pair (ap flow_of updates.here ∙ flow_is)
      (λ q other. ap flow_of (updates.others q other) ∙ kept.flows q ∙ flow-others q other);
}

-- what is added to one pair, and to the others
module _ (pair : NodePair) (n : ℕ) where
  added-here : (if same_pair pair pair then n else 0) ≡ n
  added-here = cond-true _ _ _ (same-self pair)

  added-else : (q : NodePair) (before after : ℕ) → after ≡ before + (if same_pair pair q then n else 0) → same_pair pair q ≡ false → before ≡ after
  added-else q before after is other = let none : (if same_pair pair q then n else 0) ≡ 0 = cond-false _ _ _ other in omega (arith, is, none)

-- One more arc is counted.
pub keeps-more : (arcs : List Arc) (i : ℕ) (old new : PairTable) → i < length arcs → KeepsCounted arcs (take i arcs) (λ _. 0) old
    → ((known : PairFlow) → known_of old (ends (get_or arcs i no_arc)) ≡ Some known
    → Updates old (ends (get_or arcs i no_arc)) (record { cap = known.cap + (get_or arcs i no_arc).cap; flow = known.flow }) new)
    → KeepsCounted arcs (take (i + 1) arcs) (λ _. 0) new
keeps-more arcs i old new below kept counts =
    let arc = get_or arcs i no_arc in
    let pair = ends arc in
    let has = has-own arcs i no_arc below in
    let some = some-of (known_of old pair) (kept.there pair ∙ has) in
    let known = some.0 in
    let before : known.cap ≡ pair_capacity (take i arcs) pair = sym (ap cap_of some.1) ∙ kept.caps pair in
    let longer : (q : NodePair) → pair_capacity (take (i + 1) arcs) q ≡ pair_capacity (take i arcs) q + (if same_pair pair q then arc.cap else 0)
    = λ q. ap (λ l. pair_capacity l q) (take_more arcs i no_arc below) ∙ capacity-more (take i arcs) arc q in
    keeps-updated arcs (take i arcs) (take (i + 1) arcs) (λ _. 0) (λ _. 0) old new pair (record { cap = known.cap + arc.cap; flow = known.flow })
    kept (counts known some.1) has
    (omega (arith, before, longer pair, added-here pair arc.cap))
    (sym (ap flow_of some.1) ∙ kept.flows pair)
    (λ q other. added-else pair arc.cap q _ _ (longer q) other)
    (λ q other. refl)

-- a flow that was added, in a network with these arcs
module _ (arcs : List Arc) (facts : Facts) (old new : PairTable) (pair : NodePair) (flow : ℕ) (kept : KeepsPairs arcs (pair_flow facts.flows) old)
    (added : AddsFlow old pair flow new) where
  has : has_pair arcs pair ≡ true
  has = sym (kept.there pair) ∙ ap is_some added.is_there

  cap : added.known.cap ≡ pair_capacity arcs pair
  cap = sym (ap cap_of added.is_there) ∙ kept.caps pair

  before : added.known.flow ≡ pair_flow facts.flows pair
  before = sym (ap flow_of added.is_there) ∙ kept.flows pair

  -- It is added to the flow of its pair,
  pub keeps-added : KeepsPairs arcs (pair_flow (facts.flows ++ (pair, flow) ∷ [])) new
  keeps-added =
      keeps-updated arcs arcs arcs (pair_flow facts.flows) (pair_flow (facts.flows ++ (pair, flow) ∷ [])) old new pair
      (record { cap = added.known.cap; flow = added.known.flow + flow }) kept added.updates has cap
      (omega (arith, before, flow-more facts.flows pair flow pair, added-here pair flow))
      (λ q other. refl)
      (λ q other. added-else pair flow q _ _ (flow-more facts.flows pair flow q) other)

  -- and fits.
  pub fits-good : flow_fits arcs facts pair flow ≡ Ok tt
  fits-good = rw (has, le-leb (pair_flow facts.flows pair + flow) (pair_capacity arcs pair) (omega (arith, cap, before, added.fits))) refl

-- A flow that was not added has a fault.
pub fits-bad : (arcs : List Arc) (facts : Facts) (old : PairTable) (pair : NodePair) (flow : ℕ) (kind : SolutionFaultKind)
    → KeepsPairs arcs (pair_flow facts.flows) old → CannotAdd (known_of old pair) flow kind → flow_fits arcs facts pair flow ≡ Err kind
fits-bad arcs facts old pair flow kind kept cannot =
    bad-at arcs facts pair flow kind (known_of old pair) (kept.there pair) (kept.caps pair) (kept.flows pair) cannot

-- The capacities counted of a pair and one more arc are within the capacities of all arcs.
pub capacity-fits : (arcs : List Arc) (i : ℕ) (old : PairTable) → KeepsCounted arcs (take i arcs) (λ _. 0) old → i < length arcs
    → cap_of (known_of old (ends (get_or arcs i no_arc))) + (get_or arcs i no_arc).cap ≤ capacity_sum arcs
capacity-fits arcs i old kept below =
    let arc = get_or arcs i no_arc in
    let cap : Arc → ℕ = λ a. if same_pair (ends a) (ends arc) then a.cap else 0 in
    let part : (a : Arc) → cap a ≤ a.cap = λ a. ⊎_elim
    (λ here. let is : cap a ≡ a.cap = cond-true _ _ _ here in omega (arith, is))
    (λ other. let is : cap a ≡ 0 = cond-false _ _ _ other in omega (arith, is))
    (cases_Bool (same_pair (ends a) (ends arc))) in
    let sums = sum_by_more_le_part cap (λ a. a.cap) arcs i no_arc below part in
    let before = kept.caps (ends arc) in
    omega (arith, sums, before)

-- ---- the flows that the arcs get

-- the flow of one arc, and the flows of the arcs after it
pub put-more : (flows : List (NodePair × ℕ)) (arcs : List Arc) (i : ℕ) (d : Arc) → i < length arcs → put_behind flows (take i arcs) (drop i arcs)
    ≡ min (get_or arcs i d).cap (pair_flow flows (ends (get_or arcs i d)) - pair_capacity (take i arcs) (ends (get_or arcs i d)))
    ∷ put_behind flows (take (i + 1) arcs) (drop (i + 1) arcs)
put-more flows arcs i d below =
    let next : suc i ≡ i + 1 = omega arith in
    rw (drop-cons arcs i d below, take_more arcs i d below, ← next) refl

-- each is within the capacity of its arc
pub put-within : (flows : List (NodePair × ℕ)) (before arcs : List Arc) → AreWithinCapacities arcs (put_behind flows before arcs)
put-within flows before [] = tt
put-within flows before (arc ∷ more) = (omega arith, put-within flows (before ++ arc ∷ []) more)
