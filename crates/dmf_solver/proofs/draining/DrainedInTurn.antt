-- Draining arcs to 0 in turn leaves a flow that is 0 on each of them. Its value is lower by at most the flow that was on them.
use Rattle.std.proofs.Common.{ℕ, ◌≡◌, ◌-◌, ◌≤◌, List, [], ◌∷◌, get_or, zero, suc, refl, ◌∙◌, subst, arith}
use Rattle.std.proofs.lemmas.Int.{ints}
use Rattle.std.proofs.lemmas.List.Sums.{sum_by-cons}
use Rattle.std.proofs.lemmas.Slice.Zip.{AllZip-long}
use Rattle.dmf_path.specs.Search.{Searched}
use Rattle.dmf_state.specs.declared.edit.Move.{Move}
use Rattle.dmf_solver.specs.Pairs.{Along, IsCarryingSearch, flows_read}
use Rattle.dmf_solver.specs.Drain.{Drains, TakesOff}
use Rattle.dmf_state.specs.Edit.{differences}
use Rattle.dmf_state.specs.Flow.{flow_on, flow_on_all}
use Rattle.dmf_solver.specs.Moves.{DrainsInTurn, AreShuttingMoves}
use Rattle.dmf_state.specs.Network.{Network}
use Rattle.dmf_state.specs.NetworkState.{NetworkState, IsState, with_flows}
use Rattle.dmf_solver.proofs.draining.Draining.{IsNoMore, no_more-in_turn, TakesOff-none, drains-state}
use Rattle.dmf_state.proofs.ClosedArcs.{HasArcs, AreWithoutFlow}
use Rattle.dmf_state.proofs.Moving.{moves-between}
use Rattle.dmf_solver.proofs.draining.DrainingWalk.{drains-none}

-- No flow is more than before, at each place,
pub no_more-at : (xs ys : List ℕ) (k : ℕ) → IsNoMore xs ys → get_or ys k 0 ≤ get_or xs k 0
no_more-at [] [] k less = omega arith
no_more-at [] (y ∷ ys) k less = absurd less
no_more-at (x ∷ xs) [] k less = absurd less
no_more-at (x ∷ xs) (y ∷ ys) zero less = less.0
no_more-at (x ∷ xs) (y ∷ ys) (suc k) less = no_more-at xs ys k less.1

-- so the flow on some of the arcs together is not more either.
no_more-on_all : (xs ys js : List ℕ) → IsNoMore xs ys → flow_on_all ys js ≤ flow_on_all xs js
no_more-on_all xs ys [] less = omega arith
no_more-on_all xs ys (j ∷ js) less =
    omega (arith, no_more-at xs ys (j - 1) less, no_more-on_all xs ys js less, sum_by-cons (flow_on xs) j js, sum_by-cons (flow_on ys) j js)

-- What holds for the flows that draining leaves.
pub record AreLeft (s : NetworkState) (js flows last : List ℕ) : Type 0 where
  pub takes_off : TakesOff s.network (flow_on_all flows js) flows last
  pub state : IsState (with_flows s last)
  pub without_flow : AreWithoutFlow last js

-- After arcs are drained in turn it holds.
pub left-in_turn : (s : NetworkState) (js flows last : List ℕ) → IsState (with_flows s flows) → HasArcs s.network js
    → DrainsInTurn s.network js flows last → AreLeft s js flows last
left-in_turn s [] flows last state has is = record {
  takes_off = subst (TakesOff s.network 0 flows) is (TakesOff-none s.network 0 flows state.flow);
  state = subst (λ xs. IsState (with_flows s xs)) is state;
  without_flow = tt;
}
left-in_turn s (j ∷ js) flows last state has drains =
    let next : List ℕ = drains.0 in
    let first = drains-state s j 0 flows next state has.0 drains.1 in
    let rest = left-in_turn s js next last first.1 has.1 drains.2 in
    let sum = sum_by-cons (flow_on flows) j js in
    let fewer = no_more-on_all flows next js first.0.no_more in
    record {
      takes_off = record {
        no_more = no_more-in_turn flows next last first.0.no_more rest.takes_off.no_more;
        flow = rest.takes_off.flow;
        value = omega (arith, ints, first.0.value, rest.takes_off.value, sum, fewer);
        untouched = λ none.
            let here : next ≡ flows = first.0.untouched (omega (arith, none, sum)) in
            rest.takes_off.untouched (omega (arith, none, sum, fewer)) ∙ here;
      };
      state = rest.state;
      without_flow = (omega (arith, no_more-at next last (j - 1) rest.takes_off.no_more, drains.1.within), rest.without_flow);
    }

-- It holds for the moves between the flows before and after.
pub shutting-moves : (s : NetworkState) (js last : List ℕ) (moves : List Move) → IsState s → HasArcs s.network js → DrainsInTurn s.network js s.flows last
    → moves ≡ differences 1 s.flows last → AreShuttingMoves s js moves
shutting-moves s js last moves state has drains is =
    let left = left-in_turn s js s.flows last state has drains in
    let between = moves-between moves s.flows last (AllZip-long _ s.flows last left.takes_off.no_more) is in
    let made = between.makes in
    record {
      fit = between.fit;
      differ = between.differ;
      drains = rw made drains;
      state = rw made left.state;
      takes_off = rw made left.takes_off;
    }

-- Arcs that carry no flow are drained without a path.
pub drains-none_in_turn : (n : Network) (js flows : List ℕ) → flow_on_all flows js ≡ 0 → DrainsInTurn n js flows flows
drains-none_in_turn n [] flows none = refl
drains-none_in_turn n (j ∷ js) flows none =
    let sum = sum_by-cons (flow_on flows) j js in
    (flows, drains-none n j 0 flows (omega (arith, none, sum)), drains-none_in_turn n js flows (omega (arith, none, sum)))

-- The flows of the search so far: draining the remaining arcs from them gives what draining all arcs gives from the state's flow.
pub record AreDrainedUpTo (s : NetworkState) (all left unpaired : List ℕ) (search : Searched) : Type 0 where
  pub carrying : IsCarryingSearch s unpaired search
  pub onward : (last : List ℕ) → DrainsInTurn s.network left (flows_read Along unpaired search.pairs) last → DrainsInTurn s.network all s.flows last

-- After the drain of the next arc, one arc less is left.
pub drained-next_arc : (s : NetworkState) (all left unpaired next_unpaired : List ℕ) (j : ℕ) (rest : List ℕ) (search next : Searched) → left ≡ j ∷ rest
    → IsCarryingSearch s next_unpaired next → Drains s.network j 0 (flows_read Along unpaired search.pairs) (flows_read Along next_unpaired next.pairs)
    → AreDrainedUpTo s all left unpaired search → AreDrainedUpTo s all rest next_unpaired next
drained-next_arc s all left unpaired next_unpaired j rest search next is carrying drains up_to = record {
  carrying = carrying;
  onward = λ last more. up_to.onward last (rw is (flows_read Along next_unpaired next.pairs, drains, more));
}

-- Once none is left, all were drained in turn.
pub drained-every_arc : (s : NetworkState) (all left unpaired : List ℕ) (search : Searched) → left ≡ [] → AreDrainedUpTo s all left unpaired search
    → DrainsInTurn s.network all s.flows (flows_read Along unpaired search.pairs)
drained-every_arc s all left unpaired search none up_to = up_to.onward (flows_read Along unpaired search.pairs) (rw none refl)
