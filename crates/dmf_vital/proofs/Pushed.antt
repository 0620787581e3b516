-- Sending an amount along the steps of a search, and taking it off an exit.
use Rattle.std.proofs.Common.{ℕ, ◌≡◌, ◌≢◌, ◌+◌, ◌-◌, ◌<◌, ◌≤◌, ◌⊎◌, ◌==◌, Bool, true, false, not, cond, List, length, get_or, set, refl, ap, sym, ◌∙◌, subst, arith, ⊎_elim, inl, inr}
use Rattle.std.proofs.lemmas.Bool.{both_ways, true_from_ne_false}
use Rattle.std.proofs.lemmas.Int.{ints}
use Rattle.std.proofs.lemmas.List.{get_or-set_other, get_or_read}
use Rattle.std.specs.List.{All}
use Rattle.std.proofs.lemmas.Slice.Zip.{AllZip-long}
use Rattle.dmf_node.specs.Node.{IsNode}
use Rattle.dmf_state.specs.declared.arc.Arc.{Arc}
use Rattle.dmf_state.specs.Arc.{IsArc, no_arc}
use Rattle.dmf_state.specs.Flow.{flow_on, outflow, inflow, AreWithinCapacities, IsFlow}
use Rattle.dmf_state.specs.Network.{Network, arc_number, has_arc}
use Rattle.dmf_state.proofs.ChangedArc.{has_arc-within}
use Rattle.dmf_state.proofs.Changing.{flow_at-set, within-set, within-at}
use Rattle.dmf_solver.specs.Greatest.{IsGreatest}
use Rattle.dmf_solver.proofs.cuts.Crossing.{sum_of_parts}
use Rattle.dmf_vital.specs.declared.exits.Exits.{Exits}
use Rattle.dmf_vital.specs.declared.hop.Hop.{Hop}
use Rattle.dmf_vital.specs.declared.tree.Reached.{Reached}
use Rattle.dmf_vital.specs.Exits.{is_barred, is_exit}
use Rattle.dmf_vital.specs.Hop.{from_of, to_of, room_of, sent, turned}
use Rattle.dmf_vital.specs.Ranks.{is_across}
use Rattle.dmf_vital.specs.Shifted.{amount_at, AreShifted, HasSteps, KeepsOthers}
use Rattle.dmf_vital.specs.Tree.{not_reached, at_node, back_of, place_of, room_over, AreListed, IsBegun, IsReachedBy}
use Rattle.dmf_vital.proofs.Chained.{node-from}
use Rattle.dmf_vital.proofs.Crossing.{from-turned, to-turned}
use Rattle.dmf_vital.proofs.Level.{barred-exit, barred-parts}

-- Setting the flow on an arc that is not barred keeps those on the barred arcs.
barred-kept : (n : Network) (e : Exits) (i y : ℕ) (now : List ℕ) → has_arc n i ≡ true → is_barred n e i ≡ false → (m : ℕ) → has_arc n m ≡ true
    → is_barred n e m ≡ true → flow_on (set now (i - 1) y) m ≡ flow_on now m
barred-kept n e i y now there other m there_too barred =
    let at = has_arc-within n i there in
    let also = has_arc-within n m there_too in
    get_or-set_other now (i - 1) (m - 1) y 0 (λ same.
    let is : m ≡ i = omega (arith, same, at.0, also.0) in
    both_ways (is_barred n e i) other (ap (is_barred n e) (sym is) ∙ barred))

-- The flow on one arc changes.
module _ (n : Network) (flows : List ℕ) (k y : ℕ) (long : length flows ≡ length n.arcs) (h : k < length n.arcs) (v : ℕ) where
  abbrev tail : ℕ
  tail = (get_or n.arcs k no_arc).tail

  abbrev head : ℕ
  head = (get_or n.arcs k no_arc).head

  -- It grows by an amount: so do the outflow of the tail and the inflow of the head.
  more-out : (amount : ℕ) → y ≡ get_or flows k 0 + amount → outflow n.arcs (set flows k y) v ≡ outflow n.arcs flows v + amount_at amount tail v
  more-out amount is =
      omega (arith, flow_at-set (λ a. a.tail) n.arcs flows k y v long h, ap (λ x. cond (tail == v) x 0) is, sum_of_parts (tail == v) (get_or flows k 0) amount)

  more-into : (amount : ℕ) → y ≡ get_or flows k 0 + amount → inflow n.arcs (set flows k y) v ≡ inflow n.arcs flows v + amount_at amount head v
  more-into amount is =
      omega (arith, flow_at-set (λ a. a.head) n.arcs flows k y v long h, ap (λ x. cond (head == v) x 0) is, sum_of_parts (head == v) (get_or flows k 0) amount)

  -- It falls by an amount: so do they.
  less-out : (amount : ℕ) → y + amount ≡ get_or flows k 0 → outflow n.arcs (set flows k y) v + amount_at amount tail v ≡ outflow n.arcs flows v
  less-out amount is =
      omega (arith, flow_at-set (λ a. a.tail) n.arcs flows k y v long h, ap (λ x. cond (tail == v) x 0) is, sum_of_parts (tail == v) y amount)

  less-into : (amount : ℕ) → y + amount ≡ get_or flows k 0 → inflow n.arcs (set flows k y) v + amount_at amount head v ≡ inflow n.arcs flows v
  less-into amount is =
      omega (arith, flow_at-set (λ a. a.head) n.arcs flows k y v long h, ap (λ x. cond (head == v) x 0) is, sum_of_parts (head == v) y amount)

-- One step sends an amount from the one end of its arc to the other.
pub shifted-step : (n : Network) (e : Exits) (i amount : ℕ) (against : Bool) (now : List ℕ) → has_arc n i ≡ true → is_barred n e i ≡ false
    → AreWithinCapacities n.arcs now → amount ≤ room_of against (arc_number n i) (flow_on now i)
    → AreShifted n e (from_of against (arc_number n i)) (to_of against (arc_number n i)) amount now (set now (i - 1) (sent against amount (flow_on now i)))
shifted-step n e i amount false now there other within room =
    let at = has_arc-within n i there in
    let long = AllZip-long _ n.arcs now within in
    let le = within-at n.arcs now (i - 1) within in
    let y : ℕ = flow_on now i + amount in
    record {
      within = within-set n.arcs now (i - 1) y within (omega (arith, le, room));
      balance = λ v. omega (arith, more-out n now (i - 1) y long at.1 v amount refl, more-into n now (i - 1) y long at.1 v amount refl);
      kept = barred-kept n e i y now there other;
    }
shifted-step n e i amount true now there other within room =
    let at = has_arc-within n i there in
    let long = AllZip-long _ n.arcs now within in
    let le = within-at n.arcs now (i - 1) within in
    let y : ℕ = flow_on now i - amount in
    let whole : y + amount ≡ get_or now (i - 1) 0 = omega (arith, room) in
    record {
      within = within-set n.arcs now (i - 1) y within (omega (arith, le));
      balance = λ v. omega (arith, less-out n now (i - 1) y long at.1 v amount whole, less-into n now (i - 1) y long at.1 v amount whole);
      kept = barred-kept n e i y now there other;
    }

-- More is sent to where that was sent from,
pub shifted-before : (n : Network) (e : Exits) (a b c amount : ℕ) (first second third : List ℕ) → AreShifted n e a b amount first second
    → AreShifted n e c a amount second third → AreShifted n e c b amount first third
shifted-before n e a b c amount first second third was then = record {
  within = then.within;
  balance = λ v. omega (arith, was.balance v, then.balance v);
  kept = λ i there barred. then.kept i there barred ∙ was.kept i there barred;
}

-- or from where it was sent to.
pub shifted-after : (n : Network) (e : Exits) (a b c amount : ℕ) (first second third : List ℕ) → AreShifted n e a b amount first second
    → AreShifted n e b c amount second third → AreShifted n e a c amount first third
shifted-after n e a b c amount first second third was then = record {
  within = then.within;
  balance = λ v. omega (arith, was.balance v, then.balance v);
  kept = λ i there barred. then.kept i there barred ∙ was.kept i there barred;
}

-- ---- along the steps of a search

-- An amount is sent from the first node to the second, or from behind from the second to the first.
abbrev pub IsSent : Network → Exits → Bool → ℕ → ℕ → ℕ → List ℕ → List ℕ → Type 0
IsSent n e true v b amount before now = AreShifted n e b v amount before now
IsSent n e false v b amount before now = AreShifted n e v b amount before now

pub sent-within : (n : Network) (e : Exits) (back : Bool) (v b amount : ℕ) (before now : List ℕ) → IsSent n e back v b amount before now → AreWithinCapacities n.arcs now
sent-within n e true v b amount before now is = is.within
sent-within n e false v b amount before now is = is.within

-- At first nothing is sent.
sent-none : (n : Network) (e : Exits) (back : Bool) (v amount : ℕ) (flows : List ℕ) → AreWithinCapacities n.arcs flows → IsSent n e back v v amount flows flows
sent-none n e true v amount flows within = record { within = within; balance = λ u. refl; kept = λ i there barred. refl }
sent-none n e false v amount flows within = record { within = within; balance = λ u. refl; kept = λ i there barred. refl }

-- One more step.
sent-more : (n : Network) (e : Exits) (back : Bool) (v b amount : ℕ) (before now : List ℕ) (hop : Hop) → has_arc n hop.arc ≡ true → is_barred n e hop.arc ≡ false
    → to_of hop.against (arc_number n hop.arc) ≡ v → amount ≤ room_over n now back hop.against hop.arc → IsSent n e back v b amount before now
    → IsSent n e back (from_of hop.against (arc_number n hop.arc)) b amount before
    (set now (hop.arc - 1) (sent (turned back hop.against) amount (flow_on now hop.arc)))
sent-more n e true v b amount before now hop there other to room is =
    let arc : Arc = arc_number n hop.arc in
    let after : List ℕ = set now (hop.arc - 1) (sent (not hop.against) amount (flow_on now hop.arc)) in
    let step = shifted-step n e hop.arc amount (not hop.against) now there other is.within room in
    let from : from_of (not hop.against) arc ≡ v = from-turned hop.against arc ∙ to in
    shifted-after n e b v (from_of hop.against arc) amount before now after is
    (subst (λ u. AreShifted n e v u amount now after) (to-turned hop.against arc)
    (subst (λ u. AreShifted n e u (to_of (not hop.against) arc) amount now after) from step))
sent-more n e false v b amount before now hop there other to room is =
    let arc : Arc = arc_number n hop.arc in
    let after : List ℕ = set now (hop.arc - 1) (sent hop.against amount (flow_on now hop.arc)) in
    let step = shifted-step n e hop.arc amount hop.against now there other is.within room in
    shifted-before n e v b (from_of hop.against arc) amount before now after is
    (subst (λ u. AreShifted n e (from_of hop.against arc) u amount now after) to step)

-- The flow is moved from the first node up to node `v`. Arcs between nodes that were not reached after `v` have the flow that they had, and so
-- have all but those between nodes of this end.
pub record IsPushedFrom (n : Network) (e : Exits) (back : Bool) (v b amount : ℕ) (nodes : List Reached) (before now : List ℕ) : Type 0 where
  pub node : IsNode n.nodes v
  pub reached : 0 < place_of nodes v
  pub end : back_of nodes v ≡ back
  pub fits : amount ≤ (at_node nodes v).width
  pub sent : IsSent n e back v b amount before now
  pub unchanged : (k : ℕ) → k < length n.arcs → place_of nodes (get_or n.arcs k no_arc).tail ≤ place_of nodes v
      → place_of nodes (get_or n.arcs k no_arc).head ≤ place_of nodes v → get_or now k 0 ≡ get_or before k 0
  pub others : KeepsOthers n nodes back before now

pub pushed-none : (n : Network) (e : Exits) (back : Bool) (v amount : ℕ) (nodes : List Reached) (flows : List ℕ) → AreWithinCapacities n.arcs flows
    → IsNode n.nodes v → 0 < place_of nodes v → back_of nodes v ≡ back → amount ≤ (at_node nodes v).width → IsPushedFrom n e back v v amount nodes flows flows
pushed-none n e back v amount nodes flows within node reached end fits = record {
  node = node;
  reached = reached;
  end = end;
  fits = fits;
  sent = sent-none n e back v amount flows within;
  unchanged = λ k h tail head. refl;
  others = λ i there other. refl;
}

-- both ends of an arc, by the direction of a step over it
pub ends-of : (P : ℕ → Type 0) (against : Bool) (arc : Arc) → P (from_of against arc) → P (to_of against arc) → P arc.tail × P arc.head
ends-of P true arc from to = (to, from)
ends-of P false arc from to = (from, to)

-- One step back: to the node from which `v` was reached.
module _ (n : Network) (e : Exits) (back : Bool) (v b amount : ℕ) (nodes : List Reached) (before now : List ℕ) (pushed : IsPushedFrom n e back v b amount nodes before now)
    (by : IsReachedBy n before e nodes v (at_node nodes v)) (from_node : (arc : ℕ) (against : Bool) → has_arc n arc ≡ true
    → IsNode n.nodes (from_of against (arc_number n arc))) where
  abbrev hop : Hop
  hop = (at_node nodes v).hop

  abbrev k : ℕ
  k = hop.arc - 1

  abbrev arc : Arc
  arc = get_or n.arcs k no_arc

  abbrev u : ℕ
  u = from_of hop.against arc

  within : k < length n.arcs
  within = (has_arc-within n hop.arc by.is_there).1

  same-flow : get_or now k 0 ≡ get_or before k 0
  same-flow =
      let to : place_of nodes (to_of hop.against arc) ≤ place_of nodes v = let same = ap (place_of nodes) by.leads_to in omega (arith, same) in
      let ends = ends-of (λ w. place_of nodes w ≤ place_of nodes v) hop.against arc (omega (arith, by.from_before)) to in
      pushed.unchanged k within ends.0 ends.1

  -- The step has room,
  pub pushed-room : amount ≤ room_over n now back hop.against hop.arc
  pushed-room =
      let room : room_over n now back hop.against hop.arc ≡ room_over n before back hop.against hop.arc = ap (room_of (turned back hop.against) arc) same-flow in
      let end : room_over n before (at_node nodes v).back hop.against hop.arc ≡ room_over n before back hop.against hop.arc =
      ap (λ s. room_over n before s hop.against hop.arc) pushed.end in
      omega (arith, room, end, by.fits, pushed.fits)

  pub pushed-next : IsPushedFrom n e back u b amount nodes before (set now k (sent (turned back hop.against) amount (get_or now k 0)))
  pushed-next =
      let y : ℕ = sent (turned back hop.against) amount (get_or now k 0) in
      let at = has_arc-within n hop.arc by.is_there in
      let from_end : back_of nodes u ≡ back = by.same_end ∙ pushed.end in
      let to_end : back_of nodes (to_of hop.against arc) ≡ back = ap (back_of nodes) by.leads_to ∙ pushed.end in
      let ends = ends-of (λ w. back_of nodes w ≡ back) hop.against arc from_end to_end in
      record {
        node = from_node hop.arc hop.against by.is_there;
        reached = by.from_reached;
        end = from_end;
        fits = omega (arith, by.narrows, pushed.fits);
        sent = sent-more n e back v b amount before now hop by.is_there by.other by.leads_to pushed-room pushed.sent;
        unchanged = λ i h tail head.
            let apart : i ≢ k = λ (e : i ≡ k).
            let to : place_of nodes (to_of hop.against arc) ≤ place_of nodes u = elim hop.against as (λ s. place_of nodes (to_of s arc) ≤ place_of nodes u) [
              | true ↦ subst (λ m. place_of nodes (get_or n.arcs m no_arc).tail ≤ place_of nodes u) e tail
              | false ↦ subst (λ m. place_of nodes (get_or n.arcs m no_arc).head ≤ place_of nodes u) e head
            ] in
            let same = ap (place_of nodes) by.leads_to in
            omega (arith, to, same, by.from_before) in
            get_or-set_other now k i y 0 apart
            ∙ pushed.unchanged i h (omega (arith, tail, by.from_before)) (omega (arith, head, by.from_before));
        others = λ i there other.
            let place = has_arc-within n i there in
            let apart : i - 1 ≢ k = λ e. ⊎_elim
            (λ (tail : back_of nodes (arc_number n i).tail ≢ back). tail (ap (λ m. back_of nodes (get_or n.arcs m no_arc).tail) e ∙ ends.0))
            (λ (head : back_of nodes (arc_number n i).head ≢ back). head (ap (λ m. back_of nodes (get_or n.arcs m no_arc).head) e ∙ ends.1))
            other in
            get_or-set_other now k (i - 1) y 0 apart ∙ pushed.others i there other;
      }

-- What is known of the last step to a node, as the code reads it.
pub record StepsBack (n : Network) (e : Exits) (back : Bool) (v b amount : ℕ) (nodes : List Reached) (before now : List ℕ) (by : Reached) : Type 0 where
  pub there : has_arc n by.hop.arc ≡ true
  pub end : by.back ≡ back
  pub room : amount ≤ room_over n now by.back by.hop.against by.hop.arc
  pub next : IsPushedFrom n e back (from_of by.hop.against (arc_number n by.hop.arc)) b amount nodes before
      (set now (by.hop.arc - 1) (sent (turned by.back by.hop.against) amount (flow_on now by.hop.arc)))
  pub smaller : place_of nodes (from_of by.hop.against (arc_number n by.hop.arc)) < place_of nodes v

pub steps-back : (n : Network) (e : Exits) (back : Bool) (v b amount : ℕ) (nodes : List Reached) (before now : List ℕ) → All (IsArc n.nodes) n.arcs
    → IsPushedFrom n e back v b amount nodes before now → IsReachedBy n before e nodes v (at_node nodes v)
    → StepsBack n e back v b amount nodes before now (at_node nodes v)
steps-back n e back v b amount nodes before now arcs pushed by =
    let hop : Hop = (at_node nodes v).hop in
    let from = λ (arc : ℕ) (against : Bool) (has : has_arc n arc ≡ true). node-from against n.nodes (arc_number n arc)
    (arcs (arc - 1) no_arc (has_arc-within n arc has).1) in
    let same : (at_node nodes v).back ≡ back = pushed.end in
    record {
      there = by.is_there;
      end = same;
      room = subst (λ s. amount ≤ room_over n now s hop.against hop.arc) (sym same) (pushed-room n e back v b amount nodes before now pushed by from);
      next = subst (λ s. IsPushedFrom n e back (from_of hop.against (arc_number n hop.arc)) b amount nodes before
          (set now (hop.arc - 1) (sent (turned s hop.against) amount (flow_on now hop.arc)))) (sym same)
          (pushed-next n e back v b amount nodes before now pushed by from);
      smaller = by.from_before;
    }

-- Above a node that the exits do not leave there is a step, or the search began at it from behind.
pub record IsBegunBehind (n : Network) (flows : List ℕ) (e : Exits) (back : Bool) (v : ℕ) (by : Reached) : Type 0 where
  pub behind : back ≡ true
  pub there : has_arc n by.hop.arc ≡ true
  pub exit : is_exit n e by.hop.arc ≡ true
  pub level : is_across e.ranks.now (arc_number n by.hop.arc) ≡ false
  pub enters : (arc_number n by.hop.arc).head ≡ v
  pub carries : by.width ≤ flow_on flows by.hop.arc

above : (n : Network) (e : Exits) (back : Bool) (v b amount : ℕ) (nodes : List Reached) (before now : List ℕ) → HasSteps n before e nodes back
    → IsPushedFrom n e back v b amount nodes before now → v ≢ e.node
    → IsBegunBehind n before e back v (at_node nodes v) ⊎ IsReachedBy n before e nodes v (at_node nodes v)
above n e back v b amount nodes before now steps pushed apart = ⊎_elim
    (λ (begun : IsBegun n before e v (at_node nodes v)).
    let behind : back_of nodes v ≡ true = true_from_ne_false (back_of nodes v) (λ ahead. apart (begun.ahead ahead)) in
    inl (record {
      behind = sym pushed.end ∙ behind;
      there = begun.is_there behind;
      exit = begun.exit behind;
      level = begun.level behind;
      enters = begun.enters behind;
      carries = begun.carries behind;
    }))
    (λ (by : IsReachedBy n before e nodes v (at_node nodes v)). inr by)
    (steps v pushed.node pushed.reached pushed.end)

module _ (n : Network) (e : Exits) (back : Bool) (v b amount : ℕ) (nodes : List Reached) (found before now : List ℕ) (entry : Reached)
    (listed : AreListed n.nodes nodes found) (steps : HasSteps n before e nodes back)
    (pushed : IsPushedFrom n e back v b amount nodes before now) (apart : v ≢ e.node) (read : entry ≡ get_or nodes (v - 1) entry) where
  pub is-entry : entry ≡ at_node nodes v
  is-entry = get_or_read nodes (v - 1) entry (omega (arith, pushed.node.from_one, pushed.node.to_last, listed.one_each)) read not_reached

  pub entry-width : entry.width ≡ (at_node nodes v).width
  entry-width = ap (λ (r : Reached). r.width) is-entry

  -- There is such an arc.
  pub above-there : has_arc n entry.hop.arc ≡ true
  above-there = ⊎_elim
      (λ (begun : IsBegunBehind n before e back v (at_node nodes v)). ap (λ (r : Reached). has_arc n r.hop.arc) is-entry ∙ begun.there)
      (λ (by : IsReachedBy n before e nodes v (at_node nodes v)). ap (λ (r : Reached). has_arc n r.hop.arc) is-entry ∙ by.is_there)
      (above n e back v b amount nodes before now steps pushed apart)

  -- If it is an exit, the search began here from behind.
  pub above-begun : is_exit n e entry.hop.arc ≡ true → IsBegunBehind n before e back v entry
  above-begun exit = subst (IsBegunBehind n before e back v) (sym is-entry) (⊎_elim
      (λ (begun : IsBegunBehind n before e back v (at_node nodes v)). begun)
      (λ (by : IsReachedBy n before e nodes v (at_node nodes v)).
      absurd (both_ways (is_exit n e entry.hop.arc) (ap (λ (r : Reached). is_exit n e r.hop.arc) is-entry ∙ (barred-parts n e (at_node nodes v).hop.arc by.other).0) exit))
      (above n e back v b amount nodes before now steps pushed apart))

  -- Else there is a step.
  pub above-step : All (IsArc n.nodes) n.arcs → is_exit n e entry.hop.arc ≡ false → StepsBack n e back v b amount nodes before now entry
  above-step arcs other = subst (StepsBack n e back v b amount nodes before now) (sym is-entry) (⊎_elim
      (λ (begun : IsBegunBehind n before e back v (at_node nodes v)).
      absurd (both_ways (is_exit n e entry.hop.arc) other (ap (λ (r : Reached). is_exit n e r.hop.arc) is-entry ∙ begun.exit)))
      (λ (by : IsReachedBy n before e nodes v (at_node nodes v)). steps-back n e back v b amount nodes before now arcs pushed by)
      (above n e back v b amount nodes before now steps pushed apart))

-- What room a step has, by its direction.
pub room-less : (against : Bool) (arc : Arc) (flow amount : ℕ) → against ≡ true → amount ≤ room_of against arc flow → amount ≤ flow
room-less true arc flow amount is room = room
room-less false arc flow amount is room = absurd (both_ways false refl is)

pub room-more : (against : Bool) (arc : Arc) (flow amount : ℕ) → against ≡ false → flow ≤ arc.cap → amount ≤ room_of against arc flow → flow + amount ≤ arc.cap
room-more true arc flow amount is within room = absurd (both_ways true is refl)
room-more false arc flow amount is within room = omega (arith, within, room)

-- ---- the flow is taken off an exit

module _ (n : Network) (e : Exits) (j amount left : ℕ) (before after : List ℕ) (has : has_arc n j ≡ true) (greatest : IsGreatest n before)
    (shifted : AreShifted n e (arc_number n j).tail (arc_number n j).head amount before after) (exit : is_exit n e j ≡ true)
    (all : left + amount ≡ flow_on before j) where
  abbrev taken : List ℕ
  taken = set after (j - 1) left

  long-after : length after ≡ length n.arcs
  long-after = AllZip-long _ n.arcs after shifted.within

  balance-taken : (v : ℕ) → outflow n.arcs taken v + inflow n.arcs before v ≡ outflow n.arcs before v + inflow n.arcs taken v
  balance-taken v =
      let h = (has_arc-within n j has).1 in
      let whole : left + amount ≡ get_or after (j - 1) 0 = all ∙ sym (shifted.kept j has (barred-exit n e j exit)) in
      omega (arith, shifted.balance v, less-out n after (j - 1) left long-after h v amount whole, less-into n after (j - 1) left long-after h v amount whole)

  flow-taken : IsFlow n taken
  flow-taken = record {
    within = within-set n.arcs after (j - 1) left shifted.within
        (let le = within-at n.arcs after (j - 1) shifted.within in omega (arith, le, shifted.kept j has (barred-exit n e j exit), all));
    conserved = λ v inner. omega (arith, balance-taken v, greatest.flow.conserved v inner);
  }

  -- So the flow is still greatest.
  pub greatest-taken : IsGreatest n taken
  greatest-taken = record {
    flow = flow-taken;
    none_larger = λ other is. omega (arith, ints, greatest.none_larger other is, balance-taken n.source);
  }
