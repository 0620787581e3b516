-- Draining an arc by a search over the pairs that stand for carrying steps, and reading the flows from it.
use Rattle.std.proofs.Common.{ℕ, ◌≡◌, ◌≢◌, ◌+◌, ◌-◌, ◌*◌, ◌<◌, ◌≤◌, true, false, cond, List, [], ◌∷◌, length, get_or, zero, suc, refl, ap}
use Rattle.std.proofs.Common.{sym, ◌∙◌, subst, arith, add-zero, Option, Some}
use Rattle.std.specs.List.{slice_get}
use Rattle.std.specs.Option.{option_map, unwrap_or}
use Rattle.std.proofs.lemmas.Bool.{ne_eqb}
use Rattle.std.proofs.lemmas.Slice.Zip.{AllZip-long}
use Rattle.dmf_links.specs.declared.pair.Pair.{Pair}
use Rattle.dmf_links.specs.Pair.{pair_number}
use Rattle.dmf_path.specs.Step.{Step}
use Rattle.dmf_path.specs.Path.{IsPath, HasNoPath, has_rank, bottleneck_up_to}
use Rattle.dmf_path.specs.Pair.{steps_of, pushed_pair, pushed_from, pushed_pairs}
use Rattle.dmf_path.specs.declared.search.AugmentingPath.{AugmentingPath}
use Rattle.dmf_path.specs.Search.{Searched, aimed, along_at, with_pairs, Augments, HasAlong, lowered_along}
use Rattle.dmf_path.proofs.paths.Loops.{least-without_loops, no_path-without_loops}
use Rattle.dmf_state.specs.declared.arc.Arc.{Arc}
use Rattle.dmf_state.specs.Arc.{no_arc}
use Rattle.dmf_state.specs.Network.{Network, arc_number, has_arc}
use Rattle.dmf_state.specs.Flow.{flow_on, IsFlow}
use Rattle.dmf_state.specs.declared.edit.Move.{Move}
use Rattle.dmf_state.specs.Edit.{moved, differences}
use Rattle.dmf_state.proofs.Moving.{moves-between}
use Rattle.dmf_solver.specs.declared.watch.Turn.{Turn}
use Rattle.dmf_solver.specs.Drain.{Drains, carrying_steps, lowered, value_or_zero}
use Rattle.dmf_state.specs.NetworkState.{NetworkState, IsState, with_flows}
use Rattle.dmf_solver.specs.CarryingNetwork.{IsCarryingOf, MayCarry, carrying_pair, return_pair, carrying_pairs}
use Rattle.dmf_solver.specs.Pairs.{Along, KeepLoops, Carries, IsCarryingSearch, flows_read}
use Rattle.dmf_solver.proofs.pairs.ArcPairs.{length-with_last, pair_number-of_arc, loop-unranked, read-flow, read-flows}
use Rattle.dmf_solver.proofs.pairs.CarryingPairs.{by_carrying_pair, carrying-without_loops}
use Rattle.dmf_solver.proofs.draining.CarryingSteps.{carrying-path}
use Rattle.dmf_state.proofs.ChangedArc.{has_arc-within}
use Rattle.dmf_solver.proofs.draining.DrainingWalk.{AreDrainedSoFar, drained-none, drained-more, drained-all}
use Rattle.dmf_solver.proofs.draining.LoweredPairs.{carrying_pairs-lowered}
use Rattle.dmf_solver.proofs.draining.Lowering.{CanLower, other-rank, lowered-amount, lowered-on, unlowered}

-- ---- self loops

-- Lowering along a least path leaves the flow on a self loop.
KeepLoops-lowered : (n : Network) (unpaired flows : List ℕ) (j limit : ℕ) (path : List Step) → (arc_number n j).tail ≢ (arc_number n j).head → IsFlow n flows
    → IsPath (steps_of (carrying_pairs n flows)) (arc_number n j).head (arc_number n j).tail path → KeepLoops n unpaired flows
    → KeepLoops n unpaired (lowered j limit path flows)
KeepLoops-lowered n unpaired flows j limit path apart flow leads kept k within loop =
    let same = AllZip-long _ n.arcs flows flow.within in
    let other : 1 + k ≢ j = λ e.
    let index : k ≡ j - 1 = omega (arith, e) in
    apart (subst (λ i. (get_or n.arcs i no_arc).tail ≡ (get_or n.arcs i no_arc).head) index loop) in
    let none = loop-unranked by_carrying_pair n.arcs flows (return_pair n flows ∷ []) _ _ k (2 * (1 + k)) path same within loop
    leads (omega arith) (omega arith) in
    unlowered j (bottleneck_up_to (flow_on flows j - limit) path) path flows k (omega (arith, within, same)) other none ∙ kept k within loop

-- ---- the pair of an arc

-- a pair, after a push
pushed-at : (amount i : ℕ) (path : List Step) (pairs : List (Option Pair)) (k : ℕ) → k < length pairs
    → slice_get (pushed_from false i amount path pairs) k ≡ Some (pushed_pair false (i + k) amount path (pair_number pairs k))
pushed-at amount i path [] k h = absurd (omega (arith, h))
pushed-at amount i path (p ∷ pairs) zero h = ap (λ m. Some (pushed_pair false m amount path p)) (sym (add-zero i))
pushed-at amount i path (p ∷ pairs) (suc k) h =
    let place : i + 1 + k ≡ i + suc k = omega arith in
    pushed-at amount (i + 1) path pairs k (omega (arith, h)) ∙ ap (λ m. Some (pushed_pair false m amount path (pair_number pairs k))) place

-- The pair of arc number `j` keeps its room when a push follows a path without the arc's rank.
has-along : (n : Network) (flows : List ℕ) (j amount : ℕ) (path : List Step) → length flows ≡ length n.arcs → has_arc n j ≡ true
    → (arc_number n j).tail ≢ (arc_number n j).head → amount ≤ flow_on flows j → has_rank path (2 * j) ≡ false
    → HasAlong (pushed_pairs false amount path (carrying_pairs n flows)) (j - 1) amount
has-along n flows j amount path same has apart within none =
    let at = has_arc-within n j has in
    let place : 1 + (j - 1) ≡ j = omega (arith, at.0) in
    let own = ne_eqb (arc_number n j).tail (arc_number n j).head apart in
    let here : carrying_pair (arc_number n j) (flow_on flows j) ≡ Some
    (record { tail = (arc_number n j).tail; head = (arc_number n j).head; along = flow_on flows j; against = 0 }) = rw own refl in
    let count = length-with_last by_carrying_pair n.arcs flows (return_pair n flows) same in
    record {
      pair = record {
        tail = (arc_number n j).tail;
        head = (arc_number n j).head;
        along = flow_on flows j - cond (has_rank path (2 * (1 + (j - 1)))) amount 0 + 0;
        against = 0 - cond (has_rank path (2 * (1 + (j - 1)) + 1)) amount 0 + 0;
      };
      is =
          pushed-at amount 1 path (carrying_pairs n flows) (j - 1) (omega (arith, at.1, count))
          ∙ ap (λ o. Some (pushed_pair false (1 + (j - 1)) amount path o))
          (pair_number-of_arc by_carrying_pair n.arcs flows (return_pair n flows ∷ []) (j - 1) same at.1 ∙ here);
      enough = rw (place, none) (omega (arith, within));
    }

-- ---- the search

-- the search over the pairs of carrying steps, from the head of arc number `j` to its tail
abbrev pub carrying_search : Network → ℕ → List ℕ → Searched
carrying_search n j flows = record {
  nodes = n.nodes;
  pairs = carrying_pairs n flows;
  start = (arc_number n j).head;
  goal = (arc_number n j).tail;
  takes_back = false;
}

module _ (s : NetworkState) (unpaired flows : List ℕ) (search : Searched) (carries : Carries s unpaired flows search) where
  -- There is a flow for each arc,
  pub one_each : length flows ≡ length s.network.arcs
  one_each = AllZip-long _ s.network.arcs flows carries.state.flow.within

  -- and a pair for each arc, and one more.
  pub length-carries : length search.pairs ≡ length s.network.arcs + 1
  length-carries =
      ap (λ (pairs : List (Option Pair)). length pairs) carries.search_is.pairs_are
      ∙ length-with_last by_carrying_pair s.network.arcs flows (return_pair s.network flows) one_each

  -- The flows are read from the search and the list.
  pub carries-read : flows_read Along unpaired search.pairs ≡ flows
  carries-read =
      ap (flows_read Along unpaired) carries.search_is.pairs_are
      ∙ read-flows by_carrying_pair s.network unpaired flows (return_pair s.network flows ∷ []) carries.listed one_each carries.loops

  -- So they are the flows that the search has.
  pub IsCarryingSearch-from : IsCarryingSearch s unpaired search
  IsCarryingSearch-from = subst (λ xs. Carries s unpaired xs search) (sym carries-read) carries

  -- The flow that the search has on an arc that is no self loop is the flow on the arc.
  pub carries-along : (j : ℕ) → has_arc s.network j ≡ true → (arc_number s.network j).tail ≢ (arc_number s.network j).head
      → unwrap_or (along_at search.pairs (j - 1)) 0 ≡ flow_on flows j
  carries-along j has apart =
      let arc : Arc = arc_number s.network j in
      let at = has_arc-within s.network j has in
      ap (λ pairs. unwrap_or (along_at pairs (j - 1)) 0) carries.search_is.pairs_are
      ∙ ap (λ p. unwrap_or (option_map (λ (p : Pair). p.along) p) 0)
      (pair_number-of_arc by_carrying_pair s.network.arcs flows (return_pair s.network flows ∷ []) (j - 1) one_each at.1)
      ∙ read-flow by_carrying_pair arc 0 (flow_on flows j) (λ loop. absurd (apart loop))

-- A search over the carrying steps of the state's flow carries that flow, and the flows read from it are the state's.
pub carrying-first : (s : NetworkState) (search : Searched) → IsState s → IsCarryingOf s search
    → IsCarryingSearch s s.flows search × (flows_read Along s.flows search.pairs ≡ s.flows)
carrying-first s search state is =
    let carries : Carries s s.flows s.flows search = record {
      state = state;
      listed = AllZip-long _ s.network.arcs s.flows state.flow.within;
      loops = λ k within loop. refl;
      search_is = is;
    } in
    (IsCarryingSearch-from s s.flows s.flows search carries, carries-read s s.flows s.flows search carries)

-- After the moves between the flows before and the flows of the search, the search carries the latter.
pub carries-moved : (s : NetworkState) (unpaired : List ℕ) (moves : List Move) (search : Searched) → IsState s → IsCarryingSearch s unpaired search
    → moves ≡ differences 1 s.flows (flows_read Along unpaired search.pairs) → MayCarry (with_flows s (moved moves s.flows)) search
carries-moved s unpaired moves search state carries listed =
    let last = flows_read Along unpaired search.pairs in
    let same = one_each s unpaired last search carries ∙ sym (AllZip-long _ s.network.arcs s.flows state.flow.within) in
    subst (λ flows. MayCarry (with_flows s flows) search) (sym (moves-between moves s.flows last same listed).makes)
    (value_or_zero s.network last, carries.search_is)

-- ---- draining

-- Draining from `first` has reached the flows of the search, and `left` is the flow on the arc above the limit.
pub record IsDraining (s : NetworkState) (unpaired first : List ℕ) (turn : Turn) (left : ℕ) (search : Searched) : Type 0 where
  pub flows : List ℕ
  pub so_far : AreDrainedSoFar (with_flows s first) turn.arc turn.limit flows
  pub listed : length unpaired ≡ length s.network.arcs
  pub loops : KeepLoops s.network unpaired flows
  pub search_is : search ≡ carrying_search s.network turn.arc flows
  pub left_is : left ≡ flow_on flows turn.arc - turn.limit

-- no path yet
pub draining-begun : (s : NetworkState) (unpaired first : List ℕ) (turn : Turn) (left : ℕ) (search : Searched)
    → left ≡ flow_on first turn.arc - turn.limit → Carries s unpaired first search
    → IsDraining s unpaired first turn left (aimed search (arc_number s.network turn.arc).head (arc_number s.network turn.arc).tail)
draining-begun s unpaired first turn left search left_is carries = record {
  flows = first;
  so_far = drained-none (with_flows s first) turn.arc turn.limit carries.state;
  listed = carries.listed;
  loops = carries.loops;
  search_is = λ i. record {
    nodes = carries.search_is.nodes_are i;
    pairs = carries.search_is.pairs_are i;
    start = (arc_number s.network turn.arc).head;
    goal = (arc_number s.network turn.arc).tail;
    takes_back = carries.search_is.takes_none_back i;
  };
  left_is = left_is;
}

module _ (s : NetworkState) (unpaired first : List ℕ) (turn : Turn) (left : ℕ) (search : Searched)
    (draining : IsDraining s unpaired first turn left search) where
  -- A path is left while more than the limit flows on the arc.
  pub draining-has_path : has_arc s.network turn.arc ≡ true → 0 < left → ¬ HasNoPath (steps_of search.pairs) search.start search.goal
  draining-has_path has some none =
      let n : Network = s.network in
      let j : ℕ = turn.arc in
      let state = draining.so_far.state in
      let found = carrying-path n draining.flows j state.network state.flow state.value_from_zero has (omega (arith, some, draining.left_is)) in
      let without = carrying-without_loops n draining.flows (AllZip-long _ n.arcs draining.flows state.flow.within) in
      let here : HasNoPath (steps_of (carrying_pairs n draining.flows)) (arc_number n j).head (arc_number n j).tail =
      subst (λ (x : Searched). HasNoPath (steps_of x.pairs) x.start x.goal) draining.search_is none in
      no_path-without_loops (carrying_steps n draining.flows) (steps_of (carrying_pairs n draining.flows)) (arc_number n j).head
      (arc_number n j).tail without here found.path found.leads

  -- A search that drains has a pair for each arc, and one more.
  pub length-draining : length search.pairs ≡ length s.network.arcs + 1
  length-draining =
      ap (λ (x : Searched). length x.pairs) draining.search_is
      ∙ length-with_last by_carrying_pair s.network.arcs draining.flows (return_pair s.network draining.flows)
      (AllZip-long _ s.network.arcs draining.flows draining.so_far.state.flow.within)

  -- If nothing is left above the limit, the arc is drained, and the search carries the flow that draining gives.
  pub draining-done : left ≤ 0
      → IsCarryingSearch s unpaired search × Drains s.network turn.arc turn.limit first (flows_read Along unpaired search.pairs)
  draining-done done =
      let flows : List ℕ = draining.flows in
      let carries : Carries s unpaired flows search = record {
        state = draining.so_far.state;
        listed = draining.listed;
        loops = draining.loops;
        search_is = record {
          nodes_are = ap (λ (x : Searched). x.nodes) draining.search_is;
          pairs_are = ap (λ (x : Searched). x.pairs) draining.search_is;
          takes_none_back = ap (λ (x : Searched). x.takes_back) draining.search_is;
        };
      } in (
        IsCarryingSearch-from s unpaired flows search carries,
        subst (Drains s.network turn.arc turn.limit first) (sym (carries-read s unpaired flows search carries))
            (drained-all (with_flows s first) turn.arc turn.limit flows (omega (arith, done, draining.left_is)) draining.so_far),
      )

-- One more path: its amount is positive and at most `left`, and the arc's link has room for it.
pub record DrainsOnce (s : NetworkState) (unpaired first : List ℕ) (turn : Turn) (left amount : ℕ) (next : Searched) : Type 0 where
  pub some : 0 < amount
  pub within : amount ≤ left
  pub room : HasAlong next.pairs (turn.arc - 1) amount
  pub draining : IsDraining s unpaired first turn (left - amount) (with_pairs next (lowered_along next.pairs (turn.arc - 1) amount))

-- One path more drains the arc further.
pub draining-once : (s : NetworkState) (unpaired first : List ℕ) (turn : Turn) (left : ℕ) (found : AugmentingPath) (search next : Searched)
    → has_arc s.network turn.arc ≡ true
    → (arc_number s.network turn.arc).tail ≢ (arc_number s.network turn.arc).head → 0 < left
    → IsDraining s unpaired first turn left search → Augments left found search next → DrainsOnce s unpaired first turn left found.amount next
draining-once s unpaired first turn left found search next has apart some draining augments =
    let amount : ℕ = found.amount in
    let j : ℕ = turn.arc in
    let limit : ℕ = turn.limit in
    let n : Network = s.network in
    let flows : List ℕ = draining.flows in
    let old : Searched = carrying_search n j flows in
    let own : Augments left found old next = subst (λ x. Augments left found x next) draining.search_is augments in
    let path : List Step = own.path in
    let state = draining.so_far.state in
    let same = AllZip-long _ n.arcs flows state.flow.within in
    let without = carrying-without_loops n flows same in
    let least = least-without_loops (carrying_steps n flows) (steps_of (carrying_pairs n flows)) (arc_number n j).head
    (arc_number n j).tail path without own.least in
    let can : CanLower n j limit flows path =
    record { network = state.network; flow = state.flow; has = has; above = omega (arith, some, draining.left_is); least = least } in
    let is : amount ≡ bottleneck_up_to (flow_on flows j - limit) path = own.amount_is ∙ ap (λ bound. bottleneck_up_to bound path) draining.left_is in
    let told = lowered-amount n j limit flows path can in
    let none = other-rank n j limit flows path can in
    let on = lowered-on n j limit flows path can in
    let along : HasAlong (pushed_pairs false amount path old.pairs) (j - 1) amount =
    has-along n flows j amount path same has apart (omega (arith, is, told.1)) none in
    record {
      some = omega (arith, is, told.0);
      within = omega (arith, is, told.1, draining.left_is);
      room = subst (λ pairs. HasAlong pairs (j - 1) amount) (sym (ap (λ (x : Searched). x.pairs) own.gives)) along;
      draining = record {
        flows = lowered j limit path flows;
        so_far = drained-more (with_flows s first) j limit flows path can draining.so_far;
        listed = draining.listed;
        loops = KeepLoops-lowered n unpaired flows j limit path apart state.flow own.least.leads draining.loops;
        search_is =
            ap (λ (x : Searched). with_pairs x (lowered_along x.pairs (j - 1) amount)) own.gives
            ∙ ap (λ m. with_pairs old (lowered_along (pushed_pairs false m path old.pairs) (j - 1) m)) is
            ∙ ap (with_pairs old) (sym (carrying_pairs-lowered n flows j limit path can));
        left_is = omega (arith, is, told.1, on, draining.left_is);
      };
    }
