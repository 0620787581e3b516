-- What is lost without two arcs.
use Rattle.std.proofs.Common.{ℕ, zero, suc, ◌≡◌, ◌≢◌, ◌+◌, ◌-◌, ◌≤◌, Bool, List, [], ◌∷◌, true, refl, ap, sym, ◌∙◌, subst, arith, pos, set, get_or, length}
use Rattle.std.proofs.lemmas.Int.{ints}
use Rattle.std.proofs.lemmas.List.{length-set, get_or-set_other, get_or-set_same, set-get_or, set-set}
use Rattle.std.proofs.lemmas.List.Sums.{sum_by-set}
use Rattle.std.proofs.lemmas.Slice.Zip.{AllZip-long}
use Rattle.dmf_state.specs.declared.arc.Arc.{Arc}
use Rattle.dmf_state.specs.Arc.{no_arc, closed_arc}
use Rattle.dmf_state.specs.Flow.{IsFlow, flow_on, flow_value}
use Rattle.dmf_state.specs.Network.{Network, IsNetwork, arc_number, has_arc, with_arc}
use Rattle.dmf_state.specs.NetworkState.{NetworkState, IsState}
use Rattle.dmf_state.proofs.ChangedArc.{has_arc-within, IsFlow-with_arc, IsNetwork-with_arc, flow_value-with_arc}
use Rattle.dmf_state.proofs.Changing.{within-at}
use Rattle.dmf_solver.specs.Greatest.{IsGreatest}
use Rattle.dmf_vital.specs.declared.worst.Limits.{Limits}
use Rattle.dmf_vital.specs.Entering.{AreWorstUpTo, IsShutOut}
use Rattle.dmf_vital.specs.GreatestValue.{IsGreatestValue}
use Rattle.dmf_vital.specs.declared.rest.Rest.{Rest}
use Rattle.dmf_vital.specs.declared.worst.NumberedLoss.{NumberedLoss}
use Rattle.dmf_vital.specs.Laws.{PairHasLoss, PairLossIsAtMostFlow}
use Rattle.dmf_vital.specs.Loss.{IsLoss, IsLossOfArc, IsLossOfPair}
use Rattle.dmf_vital.specs.Rest.{IsRest}
use Rattle.dmf_vital.specs.Without.{without_arc, without_pair}
use Rattle.dmf_vital.specs.Worst.{IsPairLossAmong}
use Rattle.dmf_vital.proofs.Bounds.{loss-at_most_flow, some-loss, value-no_more}
use Rattle.dmf_vital.proofs.Closing.{network-without}
use Rattle.dmf_vital.proofs.Entered.{first-next, next-out, wider-first}
use Rattle.dmf_vital.proofs.Values.{one-loss, one-value, value-is_greatest}

-- What is lost by one change and then by another is lost by both.
loss-joined : (n m k : Network) (lost loss : ℕ) → IsLoss n m lost → IsLoss m k loss → IsLoss n k (lost + loss)
loss-joined n m k lost loss first second = record {
  before = first.before;
  after = second.after;
  greatest_before = first.greatest_before;
  greatest_after = second.greatest_after;
  difference = omega (arith, first.difference, second.difference, one-value m first.after second.before first.greatest_after second.greatest_before);
}

-- Where one arc is closed all arcs are still there.
has-without : (n : Network) (i j : ℕ) → has_arc n j ≡ true → has_arc (without_arc n i) j ≡ true
has-without n i j has = rw length-set has

-- Any two arcs have a loss.
pub some-pair_loss : PairHasLoss
some-pair_loss n i j network has also =
    let first = some-loss n i network has in
    let second = some-loss (without_arc n i) j (network-without n i has network) (has-without n i j also) in
    (first.0 + second.0, (has, also, loss-joined n (without_arc n i) (without_pair n i j) first.0 second.0 first.1.1 second.1.1))

-- The loss of a pair of these numbers.
pub pair-of : (n : Network) (w : NumberedLoss) (i j : ℕ) → w.number ≡ i → w.second ≡ j → IsLossOfPair n w.number w.second w.loss
    → IsLossOfPair n i j w.loss
pair-of n w i j first second is = subst (λ k. IsLossOfPair n i k w.loss) second (subst (λ k. IsLossOfPair n k w.second w.loss) first is)

-- It is at most the whole value.
pub pair-at_most_whole : (s : NetworkState) (i j loss value : ℕ) → IsGreatest s.network s.flows → pos value ≡ flow_value s.network s.flows
    → IsLossOfPair s.network i j loss → loss ≤ value
pair-at_most_whole s i j loss value greatest value_is pair =
    let whole = value-is_greatest s.network s.flows pair.2.before greatest pair.2.greatest_before in
    omega (arith, ints, pair.2.difference, whole, value_is)

-- ---- beside a state in which the first arc is closed

module _ (s : NetworkState) (rest : Rest) (value less : ℕ) (state : IsState s) (greatest : IsGreatest s.network s.flows) (is : IsRest s.network rest)
    (value_is : pos value ≡ flow_value s.network s.flows) (less_is : pos less ≡ flow_value rest.state.network rest.state.flows) where
  abbrev n : Network
  n = s.network

  abbrev i : ℕ
  i = rest.without

  greatest-less : IsGreatest (without_arc n i) rest.state.flows
  greatest-less = subst (λ m. IsGreatest m rest.state.flows) is.network is.greatest

  value-less : pos less ≡ flow_value (without_arc n i) rest.state.flows
  value-less = less_is ∙ ap (λ m. flow_value m rest.state.flows) is.network

  -- The value is no larger without it,
  pub less-at_most : less ≤ value
  less-at_most =
      omega (arith, ints, value_is, value-less, value-no_more n i state.network is.is_there s.flows rest.state.flows greatest greatest-less)

  value-whole : IsGreatestValue n value
  value-whole = record { flows = s.flows; greatest = greatest; value_is = sym value_is }

  -- the difference is what is lost,
  lost-is : IsLoss n (without_arc n i) (value - less)
  lost-is = record {
    before = value;
    after = less;
    greatest_before = value-whole;
    greatest_after = record { flows = rest.state.flows; greatest = greatest-less; value_is = sym value-less };
    difference = omega (arith, less-at_most);
  }

  -- and the loss of another arc adds to it.
  pub pair-loss : (j loss : ℕ) → has_arc n j ≡ true → IsLossOfArc rest.state.network j loss → IsLossOfPair n i j (value - less + loss)
  pair-loss j loss has own =
      let joined : IsLoss (without_arc n i) (without_pair n i j) loss = subst (λ m. IsLoss m (without_arc m j) loss) is.network own.1 in
      (is.is_there, has, loss-joined n (without_arc n i) (without_pair n i j) (value - less) loss lost-is joined)

  -- It is at most what the other arc carries there beside what is lost.
  pub pair-at_most : (j loss : ℕ) → IsLossOfPair n i j loss → loss ≤ value - less + flow_on rest.rerouting.flows.items j
  pair-at_most j loss pair =
      let has : has_arc rest.state.network j ≡ true = rw is.network (has-without n i j pair.1) in
      let some = some-loss rest.state.network j is.ready.network has in
      let most = loss-at_most_flow rest.state.network rest.rerouting.flows.items j some.0 is.ready.network is.ready.greatest some.1 in
      omega (arith, most, one-loss n (without_pair n i j) loss (value - less + some.0) pair.2 (pair-loss j some.0 pair.1 some.1).2)

  -- There is a flow on each arc.
  pub long-rest : length rest.rerouting.flows.items ≡ length n.arcs
  long-rest = AllZip-long _ rest.state.network.arcs rest.rerouting.flows.items is.ready.greatest.flow.within ∙ ap (λ m. length m.arcs) is.network
      ∙ length-set n.arcs (i - 1) (closed_arc (arc_number n i))

-- ---- beside the flow of the whole network

-- Two arcs are set in either order.
swap-set : (arcs : List Arc) (i j : ℕ) (a b : Arc) → i ≢ j → set (set arcs i a) j b ≡ set (set arcs j b) i a
swap-set [] i j a b apart = refl
swap-set (x ∷ xs) zero zero a b apart = absurd (apart refl)
swap-set (x ∷ xs) zero (suc j) a b apart = refl
swap-set (x ∷ xs) (suc i) zero a b apart = refl
swap-set (x ∷ xs) (suc i) (suc j) a b apart = ap (λ (l : List Arc). x ∷ l) (swap-set xs i j a b (λ e. apart (ap suc e)))

-- The other arc has no larger capacity than what it carries, so it cannot carry more without the first.
module _ (n : Network) (flows : List ℕ) (i j : ℕ) (network : IsNetwork n) (greatest : IsGreatest n flows) (has : has_arc n i ≡ true)
    (also : has_arc n j ≡ true) (apart : i ≢ j) where
  abbrev old : Arc
  old = arc_number n j

  abbrev narrow : Arc
  narrow = record { tail = old.tail; head = old.head; cap = flow_on flows j; closed = old.closed }

  abbrev narrowed : Network
  narrowed = with_arc n j narrow

  narrower : flow_on flows j ≤ old.cap
  narrower = within-at n.arcs flows (j - 1) greatest.flow.within

  network-narrowed : IsNetwork narrowed
  network-narrowed =
      let inside = (has_arc-within n j also).1 in
      let cap : Arc → ℕ = λ a. a.cap in
      let fits = sum_by-set cap n.arcs (j - 1) (closed_arc old) no_arc inside in
      IsNetwork-with_arc n j narrow network also refl refl (λ closed. omega (arith, narrower, (network.arcs (j - 1) no_arc inside).closed closed))
      (omega (arith, narrower, fits, network.capacities))

  narrow-there : arc_number narrowed j ≡ narrow
  narrow-there = get_or-set_same n.arcs (j - 1) narrow no_arc (has_arc-within n j also).1

  has-narrowed : (k : ℕ) → has_arc n k ≡ true → has_arc narrowed k ≡ true
  has-narrowed k there = rw length-set there

  widened : with_arc narrowed j old ≡ n
  widened =
      let arcs : (with_arc narrowed j old).arcs ≡ n.arcs = rw (set-set n.arcs (j - 1) narrow old) (set-get_or n.arcs (j - 1) no_arc) in
      λ k. record { nodes = n.nodes; source = n.source; sink = n.sink; arcs = arcs k }

  flow-widened : (other : List ℕ) → IsFlow narrowed other → IsFlow n other
  flow-widened other flow =
      let fits : flow_on other j ≤ narrow.cap =
      omega (arith, within-at narrowed.arcs other (j - 1) flow.within, ap (λ (a : Arc). a.cap) narrow-there) in
      subst (λ m. IsFlow m other) widened (IsFlow-with_arc narrowed j old other (has-narrowed j also) (ap (λ (a : Arc). a.tail) (sym narrow-there))
      (ap (λ (a : Arc). a.head) (sym narrow-there)) (omega (arith, fits, narrower)) flow)

  value-narrowed : (other : List ℕ) → length other ≡ length n.arcs → flow_value narrowed other ≡ flow_value n other
  value-narrowed other long = flow_value-with_arc n j narrow other refl refl long

  long-narrowed : (other : List ℕ) → IsFlow narrowed other → length other ≡ length n.arcs
  long-narrowed other flow = AllZip-long _ narrowed.arcs other flow.within ∙ length-set n.arcs (j - 1) narrow

  value-same : flow_value narrowed flows ≡ flow_value n flows
  value-same = value-narrowed flows (AllZip-long _ n.arcs flows greatest.flow.within)

  greatest-narrowed : IsGreatest narrowed flows
  greatest-narrowed = record {
    flow = IsFlow-with_arc n j narrow flows also refl refl (omega arith) greatest.flow;
    none_larger = λ other flow.
        omega (arith, ints, greatest.none_larger other (flow-widened other flow), value-narrowed other (long-narrowed other flow), value-same);
  }

  -- Without both arcs it is the same network.
  same-arcs : (without_pair narrowed i j).arcs ≡ (without_pair n i j).arcs
  same-arcs =
      let at_i = has_arc-within n i has in
      let at_j = has_arc-within n j also in
      let others : i - 1 ≢ j - 1 = λ e. apart (omega (arith, e, at_i.0, at_j.0)) in
      let first : get_or narrowed.arcs (i - 1) no_arc ≡ get_or n.arcs (i - 1) no_arc = get_or-set_other n.arcs (j - 1) (i - 1) narrow no_arc others in
      let one : Arc = closed_arc (arc_number narrowed i) in
      let back : get_or (set narrowed.arcs (i - 1) one) (j - 1) no_arc ≡ narrow =
      get_or-set_other narrowed.arcs (i - 1) (j - 1) one no_arc (λ e. others (sym e)) ∙ narrow-there in
      let two : Arc = closed_arc (arc_number n i) in
      let second : get_or (set n.arcs (i - 1) two) (j - 1) no_arc ≡ old = get_or-set_other n.arcs (i - 1) (j - 1) two no_arc (λ e. others (sym e)) in
      ap (λ (a : Arc). set (set narrowed.arcs (i - 1) one) (j - 1) (closed_arc a)) back
      ∙ ap (λ (a : Arc). set (set narrowed.arcs (i - 1) (closed_arc a)) (j - 1) (closed_arc old)) first
      ∙ ap (λ (l : List Arc). set l (j - 1) (closed_arc old)) (swap-set n.arcs (j - 1) (i - 1) narrow two (λ e. others (sym e)))
      ∙ set-set (set n.arcs (i - 1) two) (j - 1) narrow (closed_arc old)
      ∙ ap (λ (a : Arc). set (set n.arcs (i - 1) two) (j - 1) (closed_arc a)) (sym second)

  same-pair : without_pair narrowed i j ≡ without_pair n i j
  same-pair = λ k. record { nodes = n.nodes; source = n.source; sink = n.sink; arcs = same-arcs k }

  -- Without both at most what they carry is lost.
  pub pair-at_most_flow : (loss : ℕ) → IsLossOfPair n i j loss → loss ≤ flow_on flows i + flow_on flows j
  pair-at_most_flow loss pair =
      let m : Network = without_arc narrowed i in
      let there : has_arc narrowed i ≡ true = has-narrowed i has in
      let network-m : IsNetwork m = network-without narrowed i there network-narrowed in
      let first = some-loss narrowed i network-narrowed there in
      let lost = loss-at_most_flow narrowed flows i first.0 network-narrowed greatest-narrowed first.1 in
      let second = some-loss m j network-m (has-without narrowed i j (has-narrowed j also)) in
      let flows-m = second.1.1.greatest_before.flows in
      let greatest-m = second.1.1.greatest_before.greatest in
      let also_lost = loss-at_most_flow m flows-m j second.0 network-m greatest-m second.1 in
      let at_i = has_arc-within n i has in
      let at_j = has_arc-within n j also in
      let others : j - 1 ≢ i - 1 = λ e. apart (omega (arith, e, at_i.0, at_j.0)) in
      let there-m : arc_number m j ≡ narrow =
      get_or-set_other narrowed.arcs (i - 1) (j - 1) (closed_arc (arc_number narrowed i)) no_arc others ∙ narrow-there in
      let within = within-at m.arcs flows-m (j - 1) greatest-m.flow.within in
      let joined = loss-joined narrowed m (without_pair narrowed i j) first.0 second.0 first.1.1 second.1.1 in
      let before = value-is_greatest narrowed flows joined.before greatest-narrowed joined.greatest_before in
      let whole = value-is_greatest n flows pair.2.before greatest pair.2.greatest_before in
      let after = one-value (without_pair n i j) joined.after pair.2.after (subst (λ k. IsGreatestValue k joined.after) same-pair joined.greatest_after)
      pair.2.greatest_after in
      omega (arith, ints, lost, also_lost, within, ap (λ (a : Arc). a.cap) there-m, joined.difference, pair.2.difference, before, whole, value-same, after)

pub pair_loss-at_most_flow : PairLossIsAtMostFlow
pair_loss-at_most_flow n flows i j loss network greatest apart pair = pair-at_most_flow n flows i j network greatest pair.0 pair.1 apart loss pair

-- ---- the first arcs of pairs

-- If no pair with this first arc is worse than those of the list, the list is the same after it.
pub first-out : (n : Network) (among : List Bool) (i : ℕ) (limits : Limits) (worst : List NumberedLoss) (bound : ℕ)
    → AreWorstUpTo (IsPairLossAmong n among) i 0 limits worst → ((j loss : ℕ) → i ≢ j → IsLossOfPair n i j loss → loss ≤ bound)
    → IsShutOut bound limits worst → AreWorstUpTo (IsPairLossAmong n among) (i + 1) 0 limits worst
first-out n among i limits worst bound are most out = next-out (IsPairLossAmong n among) i 0 (i + 1) 0 limits worst (wider-first i 0) are bound out (λ w next.
    let same = first-next i 0 w next.0.0.0 next.1 next.2 in
    let pair : IsLossOfPair n i w.second w.loss = subst (λ k. IsLossOfPair n k w.second w.loss) same.0 next.0.0.1 in
    most w.second w.loss (λ e. omega (arith, e, same.0, next.0.0.0)) pair)
