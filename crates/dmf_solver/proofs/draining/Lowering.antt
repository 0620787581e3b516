-- Lowering an arc along a least path of carrying steps from its head to its tail gives a flow.
use Rattle.std.proofs.Common.{ℕ, ◌≡◌, ◌≢◌, ◌+◌, ◌-◌, ◌*◌, ◌<◌, ◌≤◌, ◌==◌, ◌||◌, ◌⊎◌, List, [], ◌∷◌, length, get_or, set, zero, suc, true, false, cond}
use Rattle.std.proofs.Common.{refl, ap, ◌∙◌, sym, arith, ⊎_elim, inl, inr, add-zero, eq-eqb, pos, ◌-ℤ◌, ◌≤ℤ◌}
use Rattle.std.specs.List.{Contains, AllZip}
use Rattle.std.proofs.lemmas.Bool.{ne_eqb, cases_Bool, both_ways}
use Rattle.std.proofs.lemmas.Bool.Decides.{eqb_tells}
use Rattle.std.proofs.lemmas.Grind.{same_number_lists}
use Rattle.std.proofs.lemmas.Int.{ints}
use Rattle.std.proofs.lemmas.Slice.Zip.{AllZip-long}
use Rattle.dmf_state.specs.declared.arc.Arc.{Arc}
use Rattle.dmf_path.specs.Step.{Step}
use Rattle.dmf_state.specs.Network.{Network, IsNetwork, arc_number, has_arc}
use Rattle.dmf_state.specs.Flow.{flow_on, outflow, inflow, AreWithinCapacities, IsFlow, flow_value}
use Rattle.dmf_path.specs.Path.{IsPath, IsLeastPath, has_rank, bottleneck_up_to}
use Rattle.dmf_solver.specs.Drain.{value_or_zero, carrying_steps, lowered_from, lowered}
use Rattle.dmf_state.proofs.ChangedArc.{has_arc-within}
use Rattle.dmf_state.proofs.Summing.{part-le}
use Rattle.dmf_path.proofs.paths.ShortestPaths.{Avoids, IsShortestPath, IsShortestPath-least, IsShortestPath-tail, avoids-start}
use Rattle.dmf_solver.proofs.solving.Augmenting.{set-from, at_end, at_end-other, at_end-same, flow_at-less, step-of_rank}
use Rattle.dmf_solver.proofs.solving.Augmenting.{bottleneck_up_to-le, bottleneck_up_to-positive}
use Rattle.dmf_path.proofs.paths.OneLeast.{Ascend, step-by_rank}
use Rattle.dmf_solver.proofs.draining.CarryingSteps.{IsCarrying, along, returns, carrying-contained, carrying-room, carrying-has, AreSteps-carrying}

-- ---- the lowered flows, one by one

length-lowered_from : (i j amount : ℕ) (path : List Step) (flows : List ℕ) → length (lowered_from i j amount path flows) ≡ length flows
length-lowered_from i j amount path [] = refl
length-lowered_from i j amount path (x ∷ flows) = ap suc (length-lowered_from (i + 1) j amount path flows)

-- the flow of arc number `i` after this amount is taken off arc number `j` and along a path
abbrev flow_lowered : ℕ → ℕ → List Step → ℕ → ℕ → ℕ
flow_lowered j amount path i flow = flow - cond (i == j || has_rank path (2 * i)) amount 0

get_or-lowered_from : (i j amount : ℕ) (path : List Step) (flows : List ℕ) (k : ℕ) → k < length flows
    → get_or (lowered_from i j amount path flows) k 0 ≡ flow_lowered j amount path (i + k) (get_or flows k 0)
get_or-lowered_from i j amount path [] k h = absurd (omega (arith, h))
get_or-lowered_from i j amount path (x ∷ flows) zero h = ap (λ m. flow_lowered j amount path m x) (sym (add-zero i))
get_or-lowered_from i j amount path (x ∷ flows) (suc k) h =
    let place : i + 1 + k ≡ i + suc k = omega arith in
    get_or-lowered_from (i + 1) j amount path flows k (omega (arith, h)) ∙ ap (λ m. flow_lowered j amount path m (get_or flows k 0)) place

-- No flow is more than before.
lowered_from-no_more : (i j amount : ℕ) (path : List Step) (flows : List ℕ) → AllZip (λ x y. y ≤ x) flows (lowered_from i j amount path flows)
lowered_from-no_more i j amount path [] = tt
lowered_from-no_more i j amount path (x ∷ flows) = (omega arith, lowered_from-no_more (i + 1) j amount path flows)

-- So the flows stay within the capacities.
within-lowered_from : (i j amount : ℕ) (path : List Step) (arcs : List Arc) (flows : List ℕ) → AreWithinCapacities arcs flows
    → AreWithinCapacities arcs (lowered_from i j amount path flows)
within-lowered_from i j amount path arcs [] within = within
within-lowered_from i j amount path [] (x ∷ flows) within = absurd within
within-lowered_from i j amount path (a ∷ arcs) (x ∷ flows) within = (omega (arith, within.0), within-lowered_from (i + 1) j amount path arcs flows within.1)

-- the flow of an arc that is not lowered
pub unlowered : (j amount : ℕ) (path : List Step) (flows : List ℕ) (k : ℕ) → k < length flows → 1 + k ≢ j → has_rank path (2 * (1 + k)) ≡ false
    → get_or (lowered_from 1 j amount path flows) k 0 ≡ get_or flows k 0
unlowered j amount path flows k h apart none =
    rw (get_or-lowered_from 1 j amount path flows k h, ne_eqb (1 + k) j apart, none) (omega arith)

-- an empty path lowers arc number `j` alone
pub lowered-none : (j amount : ℕ) (flows : List ℕ) → 1 ≤ j → j - 1 < length flows
    → lowered_from 1 j amount [] flows ≡ set flows (j - 1) (get_or flows (j - 1) 0 - amount)
lowered-none j amount flows first h =
    let place : 1 + (j - 1) ≡ j = omega (arith, first) in
    set-from (lowered_from 1 j amount [] flows) flows (j - 1) (get_or flows (j - 1) 0 - amount) (length-lowered_from 1 j amount [] flows) h
    (rw (get_or-lowered_from 1 j amount [] flows (j - 1) h, eq-eqb (1 + (j - 1)) j place) refl)
    (λ i within elsewhere.
    let apart : 1 + i ≢ j = omega (arith, elsewhere) in
    unlowered j amount [] flows i within apart refl)

-- one more step in front lowers its arc
lowered-along : (j amount : ℕ) (s : Step) (path : List Step) (flows : List ℕ) (k : ℕ) → s.rank ≡ 2 * (1 + k) → s.rank ≢ 2 * j → k < length flows
    → lowered_from 1 j amount (s ∷ path) flows ≡ set (lowered_from 1 j amount path flows) k (get_or flows k 0 - amount)
lowered-along j amount s path flows k rank apart h =
    let long = length-lowered_from 1 j amount path flows in
    set-from (lowered_from 1 j amount (s ∷ path) flows) (lowered_from 1 j amount path flows) k (get_or flows k 0 - amount)
    (length-lowered_from 1 j amount (s ∷ path) flows ∙ sym long) (omega (arith, h, long))
    (rw (get_or-lowered_from 1 j amount (s ∷ path) flows k h, ne_eqb (1 + k) j (omega (arith, rank, apart)), eq-eqb s.rank (2 * (1 + k)) rank) refl)
    (λ i l elsewhere.
    let within : i < length flows = omega (arith, l, long) in
    get_or-lowered_from 1 j amount (s ∷ path) flows i within
    ∙ rw (ne_eqb s.rank (2 * (1 + i)) (omega (arith, elsewhere, rank))) (sym (get_or-lowered_from 1 j amount path flows i within)))

-- the return link lowers no arc
lowered-link : (j amount : ℕ) (s : Step) (path : List Step) (flows : List ℕ) → s.rank ≡ 2 * length flows + 2
    → lowered_from 1 j amount (s ∷ path) flows ≡ lowered_from 1 j amount path flows
lowered-link j amount s path flows rank =
    let long = length-lowered_from 1 j amount (s ∷ path) flows in
    same_number_lists (lowered_from 1 j amount (s ∷ path) flows) (lowered_from 1 j amount path flows)
    (long ∙ sym (length-lowered_from 1 j amount path flows))
    (λ i l.
    let within : i < length flows = omega (arith, l, long) in
    rw (get_or-lowered_from 1 j amount (s ∷ path) flows i within, ne_eqb s.rank (2 * (1 + i)) (omega (arith, within, rank)))
    (sym (get_or-lowered_from 1 j amount path flows i within)))

-- ---- the outflow and the inflow of a node

-- the amount that the return link carries if the path has it and the two nodes are the same
abbrev pub returned : ℕ → Network → List Step → ℕ → ℕ → ℕ
returned amount n path u v = cond (has_rank path (2 * length n.arcs + 2)) (at_end amount u v) 0

-- one more step in front, whose rank no other has
rank-more : (s : Step) (path : List Step) (rank x : ℕ) → has_rank path s.rank ≡ false
    → cond (has_rank (s ∷ path) rank) x 0 ≡ cond (s.rank == rank) x 0 + cond (has_rank path rank) x 0
rank-more s path rank x none =
    ⊎_elim
    (λ (here : ((s.rank == rank) ≡ true) × (s.rank ≡ rank)). rw (here.0, ap (has_rank path) (sym here.1) ∙ none) (omega arith))
    (λ (other : ((s.rank == rank) ≡ false) × (s.rank ≢ rank)). rw other.0 (omega arith))
    (eqb_tells s.rank rank)

-- The ranks of the path's steps differ.
abbrev pub HaveOwnRanks : List Step → Type 0
HaveOwnRanks [] = Unit {0}
HaveOwnRanks (s ∷ path) = (has_rank path s.rank ≡ false) × HaveOwnRanks path

-- If no step of the path has a rank, neither the first step nor any other has it.
rank-not_first : (s : Step) (path : List Step) (rank : ℕ) → has_rank (s ∷ path) rank ≡ false → (s.rank ≢ rank) × (has_rank path rank ≡ false)
rank-not_first s path rank none = ⊎_elim
    (λ (here : ((s.rank == rank) ≡ true) × (s.rank ≡ rank)). absurd (both_ways true (rw here.0 at none) refl))
    (λ (other : ((s.rank == rank) ≡ false) × (s.rank ≢ rank)). (other.1, rw other.0 at none))
    (eqb_tells s.rank rank)

-- One more step in front: the outflow minus the inflow of a node falls by the amount at the step's tail and grows by it at the step's
-- head, apart from what the return link carries.
balance-step : (n : Network) (j amount : ℕ) (flows : List ℕ) (s : Step) (path : List Step) (v : ℕ) → length flows ≡ length n.arcs → IsCarrying n flows s
    → amount ≤ s.room → s.rank ≢ 2 * j → has_rank path s.rank ≡ false →
    outflow n.arcs (lowered_from 1 j amount (s ∷ path) flows) v + inflow n.arcs (lowered_from 1 j amount path flows) v + at_end amount s.from v + cond
    (s.rank == 2 * length n.arcs + 2) (at_end amount n.source v) 0
    ≡ outflow n.arcs (lowered_from 1 j amount path flows) v + inflow n.arcs (lowered_from 1 j amount (s ∷ path) flows) v + at_end amount s.to v + cond
    (s.rank == 2 * length n.arcs + 2) (at_end amount n.sink v) 0
balance-step n j amount flows s path v same (along c) le apart none =
    let k : ℕ = c.index in
    let before : List ℕ = lowered_from 1 j amount path flows in
    let within : k < length flows = omega (arith, c.leads.within, same) in
    let long : length before ≡ length n.arcs = length-lowered_from 1 j amount path flows ∙ same in
    let kept : get_or before k 0 ≡ get_or flows k 0 = unlowered j amount path flows k within (omega (arith, c.leads.rank_is, apart))
    (ap (has_rank path) (sym c.leads.rank_is) ∙ none) in
    let now = lowered-along j amount s path flows k c.leads.rank_is apart within in
    let some : amount ≤ get_or flows k 0 = omega (arith, le, c.room_is) in
    let out = flow_at-less (λ a. a.tail) n.arcs before k amount v (get_or flows k 0) long c.leads.within kept some in
    let into = flow_at-less (λ a. a.head) n.arcs before k amount v (get_or flows k 0) long c.leads.within kept some in
    rw (now, c.leads.tail, c.leads.head, ne_eqb s.rank (2 * length n.arcs + 2) (omega (arith, c.leads.rank_is, c.leads.within)))
    (omega (arith, out, into))
balance-step n j amount flows s path v same (returns c) le apart none =
    rw (lowered-link j amount s path flows (omega (arith, c.rank_is, same)), c.from_sink, c.to_source, eq-eqb s.rank (2 * length n.arcs + 2) c.rank_is)
    (omega arith)

-- The outflow minus the inflow of a node falls by the amount where the path begins and grows by it where the path ends, apart from what
-- the return link carries; likewise for arc number `j`.
balance-lowered : (n : Network) (j amount bound : ℕ) (flows : List ℕ) (path : List Step) (a b v : ℕ) → has_arc n j ≡ true → length flows ≡ length n.arcs
    → amount ≤ flow_on flows j → amount ≤ bottleneck_up_to bound path → IsPath (carrying_steps n flows) a b path → HaveOwnRanks path
    → has_rank path (2 * j) ≡ false →
    outflow n.arcs (lowered_from 1 j amount path flows) v + inflow n.arcs flows v + at_end amount
    (arc_number n j).tail v + at_end amount a v + returned amount n path n.source v
    ≡ outflow n.arcs flows v + inflow n.arcs (lowered_from 1 j amount path flows) v + at_end amount
    (arc_number n j).head v + at_end amount b v + returned amount n path n.sink v
balance-lowered n j amount bound flows [] a b v has same some le leads own none =
    let at = has_arc-within n j has in
    let out = flow_at-less (λ a. a.tail) n.arcs flows (j - 1) amount v _ same at.1 refl some in
    let into = flow_at-less (λ a. a.head) n.arcs flows (j - 1) amount v _ same at.1 refl some in
    let ends : at_end amount a v ≡ at_end amount b v = ap (λ u. at_end amount u v) leads in
    rw (lowered-none j amount flows at.0 (omega (arith, at.1, same))) (omega (arith, out, into, ends))
balance-lowered n j amount bound flows (s ∷ path) a b v has same some le leads own none =
    let apart = rank-not_first s path (2 * j) none in
    let later = balance-lowered n j amount bound flows path s.to b v has same some (omega (arith, le)) leads.2 own.1 apart.1 in
    let first = balance-step n j amount flows s path v same (carrying-contained n flows s leads.0) (omega (arith, le)) apart.0 own.0 in
    let start : at_end amount s.from v ≡ at_end amount a v = ap (λ u. at_end amount u v) leads.1 in
    let more = λ (u : ℕ). rank-more s path (2 * length n.arcs + 2) (at_end amount u v) own.0 in
    omega (arith, first, later, start, more n.source, more n.sink)

-- ---- the ranks of a shortest path

-- A path that avoids an end of a step does not have the step's rank.
rank-avoided : (steps : List Step) → Ascend steps → (s : Step) (v a b : ℕ) (path : List Step) → Contains steps s → (s.from ≡ v) ⊎ (s.to ≡ v)
    → IsPath steps a b path → Avoids v path → has_rank path s.rank ≡ false
rank-avoided steps ascend s v a b [] has ends leads avoids = refl
rank-avoided steps ascend s v a b (t ∷ path) has ends leads avoids =
    let apart : t.rank ≢ s.rank = λ e.
    let same : t ≡ s = step-by_rank steps ascend t s leads.0 has e in
    ⊎_elim (λ from. avoids.0 (ap (λ u. u.from) same ∙ from)) (λ to. avoids.1 (ap (λ u. u.to) same ∙ to)) ends in
    rw (ne_eqb t.rank s.rank apart) (rank-avoided steps ascend s v t.to b path has ends leads.2 avoids.2)

-- The ranks on a shortest path differ.
HaveOwnRanks-shortest : (steps : List Step) → Ascend steps → (a b : ℕ) (path : List Step) → IsShortestPath steps a b path → HaveOwnRanks path
HaveOwnRanks-shortest steps ascend a b [] shortest = tt
HaveOwnRanks-shortest steps ascend a b (s ∷ path) shortest = (
  rank-avoided steps ascend s a s.to b path shortest.leads.0 (inl shortest.leads.1) shortest.leads.2 (avoids-start steps a b s path shortest),
  HaveOwnRanks-shortest steps ascend s.to b path (IsShortestPath-tail steps a b s path shortest),
)

-- A shortest path from the head of a step to its tail does not use the step.
rank-not_back : (steps : List Step) → Ascend steps → (s : Step) (a b : ℕ) (path : List Step) → Contains steps s → s.from ≡ b → s.to ≡ a
    → IsShortestPath steps a b path → has_rank path s.rank ≡ false
rank-not_back steps ascend s a b [] has from to shortest = refl
rank-not_back steps ascend s a b (t ∷ path) has from to shortest =
    let apart : t.rank ≢ s.rank = λ e.
    let same : t ≡ s = step-by_rank steps ascend t s shortest.leads.0 has e in
    let at_once : a ≡ b = sym shortest.leads.1 ∙ ap (λ u. u.from) same ∙ from in
    let short : length (t ∷ path) ≤ 0 = shortest.shortest [] at_once in
    omega (arith, short) in
    rw (ne_eqb t.rank s.rank apart) (rank-avoided steps ascend s a t.to b path has (inr to) shortest.leads.2 (avoids-start steps a b t path shortest))

-- ---- lowering along a least path

-- the room of the return link
link-room : (n : Network) (flows : List ℕ) (s : Step) → IsCarrying n flows s → s.rank ≡ 2 * length n.arcs + 2 → s.room ≡ value_or_zero n flows
link-room n flows s (along c) rank = absurd (omega (arith, rank, c.leads.rank_is, c.leads.within))
link-room n flows s (returns c) rank = c.room_is

-- No flow is more than before.
pub lowered-no_more : (j limit : ℕ) (path : List Step) (flows : List ℕ) → AllZip (λ x y. y ≤ x) flows (lowered j limit path flows)
lowered-no_more j limit path flows = lowered_from-no_more 1 j (bottleneck_up_to (flow_on flows j - limit) path) path flows

-- More than the limit flows on an arc of the network, and the path is the least one of carrying steps from its head to its tail.
pub record CanLower (n : Network) (j limit : ℕ) (flows : List ℕ) (path : List Step) : Type 0 where
  pub network : IsNetwork n
  pub flow : IsFlow n flows
  pub has : has_arc n j ≡ true
  pub above : limit < flow_on flows j
  pub least : IsLeastPath (carrying_steps n flows) (arc_number n j).head (arc_number n j).tail path

module _ (n : Network) (j limit : ℕ) (flows : List ℕ) (path : List Step) (can : CanLower n j limit flows path) where
  abbrev bound : ℕ
  bound = flow_on flows j - limit

  abbrev amount : ℕ
  amount = bottleneck_up_to bound path

  one_each : length flows ≡ length n.arcs
  one_each = AllZip-long _ n.arcs flows can.flow.within

  shortest : IsShortestPath (carrying_steps n flows) (arc_number n j).head (arc_number n j).tail path
  shortest = IsShortestPath-least (carrying_steps n flows) (arc_number n j).head (arc_number n j).tail path can.least

  -- The path does not have the rank of the arc.
  pub other-rank : has_rank path (2 * j) ≡ false
  other-rank =
      let at = has_arc-within n j can.has in
      let step = carrying-has n flows (j - 1) at.1 (omega (arith, can.above)) in
      let rank : step.0.rank ≡ 2 * j = omega (arith, at.0, step.2.rank_is) in
      ap (has_rank path) (sym rank)
      ∙ rank-not_back (carrying_steps n flows) (AreSteps-carrying n flows can.network).ascending step.0 _ _ path step.1 step.2.tail step.2.head shortest

  -- The amount is positive, and at most the flow above the limit.
  pub lowered-amount : (0 < amount) × (amount ≤ bound)
  lowered-amount = (
    bottleneck_up_to-positive (carrying_steps n flows) (arc_number n j).head (arc_number n j).tail bound path
        (λ s has. carrying-room n flows s (carrying-contained n flows s has)) (omega (arith, can.above)) can.least.leads,
    bottleneck_up_to-le bound path,
  )

  -- The arc's flow is lower by that amount.
  pub lowered-on : flow_on (lowered j limit path flows) j ≡ flow_on flows j - amount
  lowered-on =
      let at = has_arc-within n j can.has in
      let place : 1 + (j - 1) ≡ j = omega (arith, at.0) in
      rw (get_or-lowered_from 1 j amount path flows (j - 1) (omega (arith, at.1, one_each)), eq-eqb (1 + (j - 1)) j place) refl

  -- The outflow minus the inflow of a node stays the same, apart from what the return link carries.
  balance : (v : ℕ) → outflow n.arcs (lowered j limit path flows) v + inflow n.arcs flows v + returned amount n path n.source v
      ≡ outflow n.arcs flows v + inflow n.arcs (lowered j limit path flows) v + returned amount n path n.sink v
  balance v =
      let le = bottleneck_up_to-le bound path in
      let both = balance-lowered n j amount bound flows path (arc_number n j).head (arc_number n j).tail v can.has one_each
      (omega (arith, le)) (omega arith) can.least.leads
      (HaveOwnRanks-shortest (carrying_steps n flows) (AreSteps-carrying n flows can.network).ascending _ _ path shortest) other-rank in
      omega (arith, both)

  -- The return link carries at most the inflow of the sink,
  returned-le : (u v : ℕ) → returned amount n path u v ≤ value_or_zero n flows
  returned-le u v =
      ⊎_elim
      (λ (used : has_rank path (2 * length n.arcs + 2) ≡ true).
      let found = step-of_rank (carrying_steps n flows) _ _ amount bound (2 * length n.arcs + 2) path can.least.leads (omega arith) used in
      let room = link-room n flows found.step (carrying-contained n flows found.step found.listed) found.rank_is in
      rw used (omega (arith, part-le (u == v) amount, found.room, room)))
      (λ (none : has_rank path (2 * length n.arcs + 2) ≡ false). rw none (omega arith))
      (cases_Bool (has_rank path (2 * length n.arcs + 2)))

  -- and nothing at a node where it does not begin or end.
  returned-none : (u v : ℕ) → u ≢ v → returned amount n path u v ≡ 0
  returned-none u v apart = omega (arith, part-le (has_rank path (2 * length n.arcs + 2)) (at_end amount u v), at_end-other amount u v apart)

  -- The lowered flows are a flow.
  pub lowered-flow : IsFlow n (lowered j limit path flows)
  lowered-flow = record {
    within = within-lowered_from 1 j amount path n.arcs flows can.flow.within;
    conserved = λ v inner.
        let start = returned-none n.source v (λ e. inner.not_source (sym e)) in
        let end = returned-none n.sink v (λ e. inner.not_sink (sym e)) in
        omega (arith, balance v, start, end, can.flow.conserved v inner);
  }

  -- The inflow of the sink falls by what the return link carries.
  pub value_or_zero-lowered : value_or_zero n (lowered j limit path flows) ≡ value_or_zero n flows - cond (has_rank path (2 * length n.arcs + 2)) amount 0
  value_or_zero-lowered =
      let once = ap (λ x. cond (has_rank path (2 * length n.arcs + 2)) x 0) (at_end-same amount n.source) in
      let end = returned-none n.sink n.source (λ e. can.network.two_terminals (sym e)) in
      omega (arith, balance n.source, returned-le n.source n.source, end, once)

  -- The value is lower by at most that amount, and not negative.
  pub lowered-value : pos 0 ≤ℤ flow_value n flows
      → ((flow_value n flows -ℤ pos amount) ≤ℤ flow_value n (lowered j limit path flows)) × (pos 0 ≤ℤ flow_value n (lowered j limit path flows))
  lowered-value from_zero =
      let same = balance n.source in
      let out = part-le (has_rank path (2 * length n.arcs + 2)) (at_end amount n.source n.source) in
      let start = part-le (n.source == n.source) amount in
      let end = returned-none n.sink n.source (λ e. can.network.two_terminals (sym e)) in
      (omega (arith, ints, same, out, start, end), omega (arith, ints, same, returned-le n.source n.source, end, from_zero))
