-- Augmenting along a least path of residual steps: the flow stays a flow, and its value grows by the bottleneck.
use Rattle.std.proofs.Common.{ℕ, ◌≡◌, ◌≢◌, ◌+◌, ◌-◌, ◌*◌, ◌<◌, ◌≤◌, ◌==◌, ◌⊎◌, Bool, true, false, cond, List, [], ◌∷◌, length, get_or, set, zero, suc, refl, ap}
use Rattle.std.proofs.Common.{sym, ◌∙◌, subst, arith, pos, ◌+ℤ◌, ◌≤ℤ◌, ⊎_elim, inl, inr, eq-eqb, add-zero, length-set, get_or-set_other}
use Rattle.std.specs.List.{Contains}
use Rattle.std.proofs.lemmas.Bool.{ne_eqb, cases_eq}
use Rattle.std.proofs.lemmas.Grind.{get_or-set_at, same_number_lists}
use Rattle.std.proofs.lemmas.Int.{ints}
use Rattle.std.proofs.lemmas.Slice.Zip.{AllZip-long}
use Rattle.dmf_state.specs.declared.arc.Arc.{Arc}
use Rattle.dmf_path.specs.Step.{Step}
use Rattle.dmf_state.specs.Arc.{no_arc, capacity_sum}
use Rattle.dmf_state.specs.Network.{Network, IsNetwork}
use Rattle.dmf_state.specs.Flow.{flow_at, outflow, inflow, AreWithinCapacities, IsFlow, flow_value}
use Rattle.dmf_path.specs.Path.{IsPath, IsLeastPath, has_rank, bottleneck_up_to, bottleneck}
use Rattle.dmf_solver.specs.Residual.{residual_steps, augmented_from, augmented}
use Rattle.dmf_solver.proofs.cuts.Crossing.{sum_of_parts}
use Rattle.dmf_solver.proofs.solving.ResidualSteps.{IsResidual, along, against, residual-contained}
use Rattle.dmf_path.proofs.paths.ShortestPaths.{Avoids, IsShortestPath, IsShortestPath-least, IsShortestPath-tail, avoids-start}
use Rattle.dmf_state.proofs.Changing.{flow_at-set, flow_at-le}

-- ---- the rooms on a path

-- each residual step has room
has_room : (arcs : List Arc) (flows : List ℕ) (s : Step) → IsResidual 1 arcs flows s → 0 < s.room
has_room arcs flows s (along k leads room has) = has
has_room arcs flows s (against k leads room has) = has

-- A path of steps with room has room, up to a bound that is not 0.
pub bottleneck_up_to-positive : (steps : List Step) (a b bound : ℕ) (path : List Step) → ((s : Step) → Contains steps s → 0 < s.room) → 0 < bound
    → IsPath steps a b path → 0 < bottleneck_up_to bound path
bottleneck_up_to-positive steps a b bound [] each positive leads = positive
bottleneck_up_to-positive steps a b bound (s ∷ path) each positive leads =
    omega (arith, each s leads.0, bottleneck_up_to-positive steps s.to b bound path each positive leads.2)

-- There is room on a path between two nodes.
pub room-positive : (n : Network) (flows : List ℕ) (path : List Step) → n.source ≢ n.sink → IsLeastPath (residual_steps n.arcs flows) n.source n.sink path
    → 0 < bottleneck path
room-positive n flows [] apart least = absurd (apart least.leads)
room-positive n flows (s ∷ path) apart least =
    let each = λ (t : Step) (has : Contains (residual_steps n.arcs flows) t). has_room n.arcs flows t (residual-contained 1 n.arcs flows t has) in
    bottleneck_up_to-positive (residual_steps n.arcs flows) s.to n.sink s.room path each (each s least.leads.0) least.leads.2

-- the room up to a bound is at most the bound
pub bottleneck_up_to-le : (bound : ℕ) (path : List Step) → bottleneck_up_to bound path ≤ bound
bottleneck_up_to-le bound [] = omega arith
bottleneck_up_to-le bound (s ∷ path) = let le = bottleneck_up_to-le bound path in omega (arith, le)

-- The bottleneck is at most each room of the path.
bottleneck-bounded : (path : List Step) → (bound : ℕ) × (bottleneck path ≤ bottleneck_up_to bound path)
bottleneck-bounded [] = (0, omega arith)
bottleneck-bounded (s ∷ path) = (s.room, omega (arith, bottleneck_up_to-le s.room path))

-- A step of the path with this rank has at least so much room.
pub record HasStep (steps : List Step) (amount rank : ℕ) : Type 0 where
  pub step : Step
  pub listed : Contains steps step
  pub rank_is : step.rank ≡ rank
  pub room : amount ≤ step.room

-- the step of a path with this rank
pub step-of_rank : (steps : List Step) (a b amount bound rank : ℕ) (path : List Step) → IsPath steps a b path → amount ≤ bottleneck_up_to bound path
    → has_rank path rank ≡ true → HasStep steps amount rank
step-of_rank steps a b amount bound rank [] leads within has = absurd (cc)
step-of_rank steps a b amount bound rank (s ∷ path) leads within has =
    ⊎_elim
    (λ (here : s.rank ≡ rank). record { step = s; listed = leads.0; rank_is = here; room = omega (arith, within) })
    (λ (elsewhere : s.rank ≢ rank). step-of_rank steps s.to b amount bound rank path leads.2 (omega (arith, within)) (rw (ne_eqb s.rank rank elsewhere) at has))
    (cases_eq s.rank rank)

-- the same for the bottleneck
pub step-of_least : (steps : List Step) (a b rank : ℕ) (path : List Step) → IsPath steps a b path → has_rank path rank ≡ true
    → HasStep steps (bottleneck path) rank
step-of_least steps a b rank path leads has =
    let bounded = bottleneck-bounded path in
    step-of_rank steps a b (bottleneck path) bounded.0 rank path leads bounded.1 has

-- The amount fits on arc number `j` if the path has one of its steps.
abbrev pub FitsOn : ℕ → List Step → ℕ → Arc → ℕ → Type 0
FitsOn amount path j arc flow = (has_rank path (2 * j) ≡ true → amount + flow ≤ arc.cap) × (has_rank path (2 * j + 1) ≡ true → amount ≤ flow)

-- The bottleneck fits on each arc.
pub fits-least : (arcs : List Arc) (flows : List ℕ) (a b : ℕ) (path : List Step) (j : ℕ) → IsPath (residual_steps arcs flows) a b path
    → FitsOn (bottleneck path) path (1 + j) (get_or arcs j no_arc) (get_or flows j 0)
fits-least arcs flows a b path j leads = (
  λ has.
      let step = step-of_least (residual_steps arcs flows) a b (2 * (1 + j)) path leads has in
      elim (residual-contained 1 arcs flows step.step step.listed) [
        | along k is room some ↦
            let index : k ≡ j = omega (arith, is.rank_is, step.rank_is) in
            omega (arith, room, step.room, ap (λ i. get_or flows i 0) index, ap (λ i. (get_or arcs i no_arc).cap) index)
        | against k is room some ↦ absurd (omega (arith, is.rank_is, step.rank_is))
      ],
  λ has.
      let step = step-of_least (residual_steps arcs flows) a b (2 * (1 + j) + 1) path leads has in
      elim (residual-contained 1 arcs flows step.step step.listed) [
        | along k is room some ↦ absurd (omega (arith, is.rank_is, step.rank_is))
        | against k is room some ↦
            let index : k ≡ j = omega (arith, is.rank_is, step.rank_is) in
            omega (arith, room, step.room, ap (λ i. get_or flows i 0) index)
      ],
)

-- ---- the augmented flows, one by one

-- the number of flows stays
length-augmented_from : (j amount : ℕ) (path : List Step) (flows : List ℕ) → length (augmented_from j amount path flows) ≡ length flows
length-augmented_from j amount path [] = refl
length-augmented_from j amount path (x ∷ flows) = ap suc (length-augmented_from (j + 1) amount path flows)

-- the flow of arc number `j` after it is augmented by this amount along a path
abbrev pub flow_augmented : ℕ → List Step → ℕ → ℕ → ℕ
flow_augmented amount path j flow = flow + cond (has_rank path (2 * j)) amount 0 - cond (has_rank path (2 * j + 1)) amount 0

-- each of the augmented flows
pub get_or-augmented_from : (j amount : ℕ) (path : List Step) (flows : List ℕ) (k : ℕ) → k < length flows
    → get_or (augmented_from j amount path flows) k 0 ≡ flow_augmented amount path (j + k) (get_or flows k 0)
get_or-augmented_from j amount path [] k h = absurd (omega (arith, h))
get_or-augmented_from j amount path (x ∷ flows) zero h = ap (λ i. flow_augmented amount path i x) (sym (add-zero j))
get_or-augmented_from j amount path (x ∷ flows) (suc k) h =
    let place : j + 1 + k ≡ j + suc k = omega arith in
    get_or-augmented_from (j + 1) amount path flows k (omega (arith, h)) ∙ ap (λ i. flow_augmented amount path i (get_or flows k 0)) place

-- a path without steps changes none
augmented-none : (j amount : ℕ) (flows : List ℕ) → augmented_from j amount [] flows ≡ flows
augmented-none j amount [] = refl
augmented-none j amount (x ∷ flows) =
    let same : x + 0 - 0 ≡ x = omega arith in
    λ i. same i ∷ augmented-none (j + 1) amount flows i

within-one : (ahead : Bool) (amount flow less cap : ℕ) → flow ≤ cap → (ahead ≡ true → amount + flow ≤ cap) → flow + cond ahead amount 0 - less ≤ cap
within-one true amount flow less cap within fits = let up = fits refl in omega (arith, up)
within-one false amount flow less cap within fits = omega (arith, within)

-- The flows stay within the capacities, if the amount fits on each arc.
within-augmented : (amount j : ℕ) (path : List Step) (arcs : List Arc) (flows : List ℕ) → AreWithinCapacities arcs flows
    → ((k : ℕ) → k < length arcs → FitsOn amount path (j + k) (get_or arcs k no_arc) (get_or flows k 0))
    → AreWithinCapacities arcs (augmented_from j amount path flows)
within-augmented amount j path [] [] within fit = tt
within-augmented amount j path [] (flow ∷ flows) within fit = within
within-augmented amount j path (arc ∷ arcs) [] within fit = within
within-augmented amount j path (arc ∷ arcs) (flow ∷ flows) within fit = (
  within-one (has_rank path (2 * j)) amount flow _ arc.cap within.0 (rw (add-zero j) at (fit 0 (omega arith))).0,
  within-augmented amount (j + 1) path arcs flows within.1 (λ k h.
      let place : j + suc k ≡ j + 1 + k = omega arith in
      rw place at (fit (suc k) (omega (arith, h)))),
)

-- a list that differs from another at one place alone
pub set-from : (xs ys : List ℕ) (k y : ℕ) → length xs ≡ length ys → k < length ys → get_or xs k 0 ≡ y
    → ((i : ℕ) → i < length ys → i ≢ k → get_or xs i 0 ≡ get_or ys i 0) → xs ≡ set ys k y
set-from xs ys k y same h at others =
    same_number_lists xs (set ys k y) (same ∙ sym (length-set ys k y)) (λ i l. ⊎_elim
    (λ (here : i ≡ k). ap (λ m. get_or xs m 0) here ∙ at ∙ sym (get_or-set_at ys k i y 0 here h))
    (λ (elsewhere : i ≢ k). others i (omega (arith, l, same)) elsewhere ∙ sym (get_or-set_other ys k i y 0 elsewhere))
    (cases_eq i k))

-- ---- one more step in front

-- A step that touches neither end of an arc is not one of the arc.
touches-end : (arcs : List Arc) (flows : List ℕ) (k v : ℕ) (s : Step) → IsResidual 1 arcs flows s → 2 * (1 + k) ≤ s.rank → s.rank ≤ 2 * (1 + k) + 1
    → (v ≡ (get_or arcs k no_arc).tail) ⊎ (v ≡ (get_or arcs k no_arc).head) → s.from ≢ v → s.to ≢ v → ⊥
touches-end arcs flows k v s (along i leads room has) from to end leaves arrives =
    let index : i ≡ k = omega (arith, leads.rank_is, from, to) in
    ⊎_elim (λ tail. leaves (cc)) (λ head. arrives (cc)) end
touches-end arcs flows k v s (against i leads room has) from to end leaves arrives =
    let index : i ≡ k = omega (arith, leads.rank_is, from, to) in
    ⊎_elim (λ tail. arrives (cc)) (λ head. leaves (cc)) end

-- A path that avoids an end of an arc has no step of the arc.
arc-unranked : (arcs : List Arc) (flows : List ℕ) (a b k v rank : ℕ) (path : List Step) → IsPath (residual_steps arcs flows) a b path → Avoids v path
    → (v ≡ (get_or arcs k no_arc).tail) ⊎ (v ≡ (get_or arcs k no_arc).head) → 2 * (1 + k) ≤ rank → rank ≤ 2 * (1 + k) + 1 → has_rank path rank ≡ false
arc-unranked arcs flows a b k v rank [] leads avoids end from to = refl
arc-unranked arcs flows a b k v rank (s ∷ path) leads avoids end from to =
    let apart : s.rank ≢ rank = λ e.
    touches-end arcs flows k v s (residual-contained 1 arcs flows s leads.0) (omega (arith, e, from)) (omega (arith, e, to)) end avoids.0 avoids.1 in
    rw (ne_eqb s.rank rank apart) (arc-unranked arcs flows s.to b k v rank path leads.2 avoids.2 end from to)

-- ---- the outflow and the inflow of a node

-- `amount` if the two nodes are the same
abbrev pub at_end : ℕ → ℕ → ℕ → ℕ
at_end amount u v = cond (u == v) amount 0

-- nothing is added at another node,
pub at_end-other : (amount u v : ℕ) → u ≢ v → at_end amount u v ≡ 0
at_end-other amount u v apart = rw (ne_eqb u v apart) refl

-- and the amount at the same
pub at_end-same : (amount v : ℕ) → at_end amount v v ≡ amount
at_end-same amount v = rw (eq-eqb v v refl) refl

module _ (end : Arc → ℕ) (arcs : List Arc) (flows : List ℕ) (k amount v x : ℕ) (same : length flows ≡ length arcs) (h : k < length arcs)
    (is : get_or flows k 0 ≡ x) where
  -- If one flow is greater by an amount, the sum at a node is greater by it if the node is that end of the arc,
  flow_at-more : flow_at end arcs (set flows k (x + amount)) v ≡ flow_at end arcs flows v + at_end amount (end (get_or arcs k no_arc)) v
  flow_at-more =
      let here : Bool = end (get_or arcs k no_arc) == v in
      omega (arith, flow_at-set end arcs flows k (x + amount) v same h, ap (λ y. cond here y 0) is, sum_of_parts here x amount)

  -- and so if it is lower.
  pub flow_at-less : amount ≤ x → flow_at end arcs (set flows k (x - amount)) v + at_end amount (end (get_or arcs k no_arc)) v ≡ flow_at end arcs flows v
  flow_at-less le =
      let here : Bool = end (get_or arcs k no_arc) == v in
      let old : x - amount + amount ≡ x = omega (arith, le) in
      let part : cond here (get_or flows k 0) 0 ≡ cond here (x - amount) 0 + cond here amount 0 =
      ap (λ y. cond here y 0) (is ∙ sym old) ∙ sum_of_parts here (x - amount) amount in
      omega (arith, flow_at-set end arcs flows k (x - amount) v same h, part)

-- One more step in front of a path that avoids the node where it begins.
module _ (arcs : List Arc) (flows : List ℕ) (amount : ℕ) (s : Step) (path : List Step) (b : ℕ) (same : length flows ≡ length arcs)
    (rest : IsPath (residual_steps arcs flows) s.to b path) (avoids : Avoids s.from path) where
  abbrev before : List ℕ
  before = augmented_from 1 amount path flows

  long : length before ≡ length flows
  long = length-augmented_from 1 amount path flows

  -- It changes the flow of its arc alone, and no other step has changed that.
  augmented-more : (k y : ℕ) → k < length arcs → (s.from ≡ (get_or arcs k no_arc).tail) ⊎ (s.from ≡ (get_or arcs k no_arc).head)
      → 2 * (1 + k) ≤ s.rank → s.rank ≤ 2 * (1 + k) + 1 → flow_augmented amount (s ∷ []) (1 + k) (get_or flows k 0) ≡ y
      → (get_or before k 0 ≡ get_or flows k 0) × (augmented_from 1 amount (s ∷ path) flows ≡ set before k y)
  augmented-more k y h end from to is =
      let within : k < length flows = omega (arith, h, same) in
      let ahead = arc-unranked arcs flows s.to b k s.from (2 * (1 + k)) path rest avoids end (omega arith) (omega arith) in
      let behind = arc-unranked arcs flows s.to b k s.from (2 * (1 + k) + 1) path rest avoids end (omega arith) (omega arith) in
      let own : flow_augmented amount (s ∷ path) (1 + k) (get_or flows k 0) ≡ y = rw (ahead, behind) is in
      let count = length-augmented_from 1 amount (s ∷ path) flows in (
        get_or-augmented_from 1 amount path flows k within ∙ rw (ahead, behind) (omega arith),
        set-from (augmented_from 1 amount (s ∷ path) flows) before k y (count ∙ sym long) (omega (arith, within, long))
            (get_or-augmented_from 1 amount (s ∷ path) flows k within ∙ own)
            (λ i l other.
            let inside : i < length flows = omega (arith, l, long) in
            get_or-augmented_from 1 amount (s ∷ path) flows i inside
            ∙ rw (ne_eqb s.rank (2 * (1 + i)) (omega (arith, other, from, to)), ne_eqb s.rank (2 * (1 + i) + 1) (omega (arith, other, from, to)))
            (sym (get_or-augmented_from 1 amount path flows i inside))),
      )

  -- The outflow minus the inflow of a node grows by the amount at the step's tail, and falls by it at its head.
  balance-step : (v : ℕ) → IsResidual 1 arcs flows s → amount ≤ s.room →
      outflow arcs (augmented_from 1 amount (s ∷ path) flows) v + inflow arcs before v + at_end amount s.to v
      ≡ outflow arcs before v + inflow arcs (augmented_from 1 amount (s ∷ path) flows) v + at_end amount s.from v
  balance-step v (along k leads room has) le =
      let x : ℕ = get_or flows k 0 in
      let now = augmented-more k (x + amount) leads.within (inl leads.tail) (omega (arith, leads.rank_is)) (omega (arith, leads.rank_is))
      (rw (eq-eqb s.rank (2 * (1 + k)) leads.rank_is, ne_eqb s.rank (2 * (1 + k) + 1) (omega (arith, leads.rank_is))) (omega arith)) in
      let out = flow_at-more (λ a. a.tail) arcs before k amount v x (long ∙ same) leads.within now.0 in
      let into = flow_at-more (λ a. a.head) arcs before k amount v x (long ∙ same) leads.within now.0 in
      rw (now.1, leads.tail, leads.head) (omega (arith, out, into))
  balance-step v (against k leads room has) le =
      let x : ℕ = get_or flows k 0 in
      let now = augmented-more k (x - amount) leads.within (inr leads.head) (omega (arith, leads.rank_is)) (omega (arith, leads.rank_is))
      (rw (ne_eqb s.rank (2 * (1 + k)) (omega (arith, leads.rank_is)), eq-eqb s.rank (2 * (1 + k) + 1) leads.rank_is) (omega arith)) in
      let some : amount ≤ x = omega (arith, le, room) in
      let out = flow_at-less (λ a. a.tail) arcs before k amount v x (long ∙ same) leads.within now.0 some in
      let into = flow_at-less (λ a. a.head) arcs before k amount v x (long ∙ same) leads.within now.0 some in
      rw (now.1, leads.tail, leads.head) (omega (arith, out, into))

-- The outflow minus the inflow of a node grows by the amount at the path's start, and falls by it at its end.
balance-augmented : (arcs : List Arc) (flows : List ℕ) (amount bound a b v : ℕ) (path : List Step) → length flows ≡ length arcs
    → amount ≤ bottleneck_up_to bound path → IsShortestPath (residual_steps arcs flows) a b path →
    outflow arcs (augmented_from 1 amount path flows) v + inflow arcs flows v + at_end amount b v
    ≡ outflow arcs flows v + inflow arcs (augmented_from 1 amount path flows) v + at_end amount a v
balance-augmented arcs flows amount bound a b v [] same le shortest =
    rw (augmented-none 1 amount flows) (ap (λ u. outflow arcs flows v + inflow arcs flows v + at_end amount u v) (sym shortest.leads))
balance-augmented arcs flows amount bound a b v (s ∷ path) same le shortest =
    let steps : List Step = residual_steps arcs flows in
    let leads = shortest.leads in
    let avoids = subst (λ u. Avoids u path) (sym leads.1) (avoids-start steps a b s path shortest) in
    let first = balance-step arcs flows amount s path b same leads.2 avoids v (residual-contained 1 arcs flows s leads.0) (omega (arith, le)) in
    let later = balance-augmented arcs flows amount bound s.to b v path same (omega (arith, le)) (IsShortestPath-tail steps a b s path shortest) in
    let start : at_end amount s.from v ≡ at_end amount a v = ap (λ u. at_end amount u v) leads.1 in
    omega (arith, first, later, start)

-- ---- augmenting along a least path

module _ (n : Network) (flows : List ℕ) (path : List Step) (network : IsNetwork n) (flow : IsFlow n flows)
    (least : IsLeastPath (residual_steps n.arcs flows) n.source n.sink path) where
  balance : (v : ℕ) → outflow n.arcs (augmented path flows) v + inflow n.arcs flows v + at_end (bottleneck path) n.sink v
      ≡ outflow n.arcs flows v + inflow n.arcs (augmented path flows) v + at_end (bottleneck path) n.source v
  balance v =
      let bounded = bottleneck-bounded path in
      balance-augmented n.arcs flows (bottleneck path) bounded.0 n.source n.sink v path (AllZip-long _ n.arcs flows flow.within) bounded.1
      (IsShortestPath-least (residual_steps n.arcs flows) n.source n.sink path least)

  -- A flow augmented along a least path is a flow.
  pub augmented-flow : IsFlow n (augmented path flows)
  augmented-flow = record {
    within = within-augmented (bottleneck path) 1 path n.arcs flows flow.within (λ k h. fits-least n.arcs flows n.source n.sink path k least.leads);
    conserved = λ v inner.
        let start = at_end-other (bottleneck path) n.source v (λ e. inner.not_source (sym e)) in
        let end = at_end-other (bottleneck path) n.sink v (λ e. inner.not_sink (sym e)) in
        omega (arith, balance v, start, end, flow.conserved v inner);
  }

  -- Its value is greater by the bottleneck on the path.
  pub augmented-value : flow_value n (augmented path flows) ≡ flow_value n flows +ℤ pos (bottleneck path)
  augmented-value =
      let start = at_end-same (bottleneck path) n.source in
      let end = at_end-other (bottleneck path) n.sink n.source (λ e. network.two_terminals (sym e)) in
      omega (arith, ints, balance n.source, start, end)

-- No value exceeds the sum of the capacities.
pub value-le-capacities : (n : Network) (flows : List ℕ) → IsFlow n flows → flow_value n flows ≤ℤ pos (capacity_sum n.arcs)
value-le-capacities n flows flow =
    let le = flow_at-le (λ a. a.tail) n.arcs flows n.source flow.within in
    omega (arith, ints, le)
