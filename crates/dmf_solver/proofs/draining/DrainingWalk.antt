-- Draining path by path, and its moves.
use Rattle.std.proofs.Common.{ℕ, ◌≡◌, ◌≢◌, ◌<◌, ◌≤◌, true, ◌+◌, ◌-◌, zero, suc, List, [], ◌∷◌, length, get_or, set, refl, ap, sym, ◌∙◌, arith, eq-eqb}
use Rattle.std.proofs.lemmas.Bool.{ne_eqb}
use Rattle.std.proofs.lemmas.Slice.Zip.{AllZip-long}
use Rattle.dmf_state.specs.declared.edit.Move.{Move}
use Rattle.dmf_path.specs.Step.{Step}
use Rattle.dmf_state.specs.Network.{Network, arc_number, has_arc}
use Rattle.dmf_state.specs.Flow.{flow_on}
use Rattle.dmf_state.specs.NetworkState.{NetworkState, IsState, with_flows}
use Rattle.dmf_solver.specs.Drain.{lowered, Drains}
use Rattle.dmf_state.specs.Edit.{differences}
use Rattle.dmf_solver.specs.Moves.{AreDrainingMoves}
use Rattle.dmf_state.proofs.ChangedArc.{has_arc-within}
use Rattle.dmf_solver.proofs.draining.DrainedLoop.{drained-loop}
use Rattle.dmf_solver.proofs.draining.Draining.{lowered-state, drains-state}
use Rattle.dmf_state.proofs.Moving.{moves-between}
use Rattle.dmf_solver.proofs.draining.Lowering.{CanLower}

-- The flows are those of a state, and draining the arc from them drains it from the flows of `s`.
pub record AreDrainedSoFar (s : NetworkState) (j limit : ℕ) (flows : List ℕ) : Type 0 where
  pub state : IsState (with_flows s flows)
  pub onward : (last : List ℕ) → Drains s.network j limit flows last → Drains s.network j limit s.flows last

-- no path yet
pub drained-none : (s : NetworkState) (j limit : ℕ) → IsState s → AreDrainedSoFar s j limit s.flows
drained-none s j limit state = record { state = state; onward = λ last drains. drains }

-- one more path
pub drained-more : (s : NetworkState) (j limit : ℕ) (flows : List ℕ) (path : List Step) → CanLower s.network j limit flows path
    → AreDrainedSoFar s j limit flows → AreDrainedSoFar s j limit (lowered j limit path flows)
drained-more s j limit flows path can so_far = record {
  state = lowered-state s j limit flows path so_far.state can;
  onward = λ last drains. so_far.onward last (record {
    paths = path ∷ drains.paths;
    lowers = (can.above, can.least, drains.lowers);
    within = drains.within;
  });
}

-- If no more than the limit flows on the arc, it is drained without a path.
pub drains-none : (n : Network) (j limit : ℕ) (flows : List ℕ) → flow_on flows j ≤ limit → Drains n j limit flows flows
drains-none n j limit flows within = record { paths = []; lowers = refl; within = within }

-- It is then drained so far.
pub drained-all : (s : NetworkState) (j limit : ℕ) (flows : List ℕ) → flow_on flows j ≤ limit → AreDrainedSoFar s j limit flows
    → Drains s.network j limit s.flows flows
drained-all s j limit flows within so_far = so_far.onward flows (drains-none s.network j limit flows within)

-- It holds for the moves between the flows before and after draining.
pub draining-moves : (s : NetworkState) (j limit : ℕ) (last : List ℕ) (moves : List Move) → IsState s → has_arc s.network j ≡ true
    → Drains s.network j limit s.flows last → moves ≡ differences 1 s.flows last → AreDrainingMoves s j limit moves
draining-moves s j limit last moves state has drains is =
    let told = drains-state s j limit s.flows last state has drains in
    let between = moves-between moves s.flows last (AllZip-long _ s.flows last told.0.no_more) is in
    let made = between.makes in
    record {
      fit = between.fit;
      differ = between.differ;
      drains = rw made drains;
      state = rw made told.1;
      takes_off = rw made told.0;
    }

-- no flow differs from itself
pub differences-none : (j : ℕ) (flows : List ℕ) → differences j flows flows ≡ []
differences-none j [] = refl
differences-none j (x ∷ flows) = rw (eq-eqb x x refl) (differences-none (j + 1) flows)

-- If no more than the limit flows on the arc, it holds for no moves.
pub draining-none : (s : NetworkState) (j limit : ℕ) → IsState s → has_arc s.network j ≡ true → flow_on s.flows j ≤ limit → AreDrainingMoves s j limit []
draining-none s j limit state has within =
    draining-moves s j limit s.flows [] state has (drains-none s.network j limit s.flows within) (sym (differences-none 1 s.flows))

-- If the flow of one arc differs, there is one move.
differences-set : (i k arc y : ℕ) (flows : List ℕ) → arc ≡ i + k → k < length flows → get_or flows k 0 ≢ y
    → differences i flows (set flows k y) ≡ record { arc = arc; from = get_or flows k 0; to = y } ∷ []
differences-set i k arc y [] is within differ = absurd (omega (arith, within))
differences-set i zero arc y (x ∷ flows) is within differ =
    let here : i ≡ arc = omega (arith, is) in
    rw (ne_eqb x y differ, differences-none (i + 1) flows) (ap (λ n. record { arc = n; from = x; to = y } ∷ []) here)
differences-set i (suc k) arc y (x ∷ flows) is within differ =
    rw (eq-eqb x x refl) (differences-set (i + 1) k arc y flows (omega (arith, is)) (omega (arith, within)) differ)

-- The move of a self loop is the difference that lowering its flow makes,
loop-listed : (s : NetworkState) (j flow limit : ℕ) (moves : List Move) → IsState s → has_arc s.network j ≡ true → flow ≡ flow_on s.flows j → limit < flow
    → moves ≡ record { arc = j; from = flow; to = limit } ∷ [] → moves ≡ differences 1 s.flows (set s.flows (j - 1) limit)
loop-listed s j flow limit moves state has on above is =
    let at = has_arc-within s.network j has in
    let within : j - 1 < length s.flows = omega (arith, at.1, AllZip-long _ s.network.arcs s.flows state.flow.within) in
    let place : j ≡ 1 + (j - 1) = omega (arith, at.0) in
    let differ : get_or s.flows (j - 1) 0 ≢ limit = λ e. omega (arith, e, on, above) in
    is ∙ ap (λ x. record { arc = j; from = x; to = limit } ∷ []) on ∙ sym (differences-set 1 (j - 1) j limit s.flows place within differ)

-- so it holds for this move.
pub draining-loop : (s : NetworkState) (j flow limit : ℕ) (moves : List Move) → IsState s → has_arc s.network j ≡ true
    → (arc_number s.network j).tail ≡ (arc_number s.network j).head → flow ≡ flow_on s.flows j → limit < flow
    → moves ≡ record { arc = j; from = flow; to = limit } ∷ [] → AreDrainingMoves s j limit moves
draining-loop s j flow limit moves state has loop on above is =
    draining-moves s j limit (set s.flows (j - 1) limit) moves state has
    (drained-loop s.network j limit s.flows has state.flow loop (omega (arith, on, above))) (loop-listed s j flow limit moves state has on above is)
