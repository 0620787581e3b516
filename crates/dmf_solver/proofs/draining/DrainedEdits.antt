-- The edits of drains: they fit the state, and make the change that was asked for.
use Rattle.std.proofs.Common.{ℕ, ◌≡◌, ◌+◌, ◌-◌, ◌≤◌, ◌^◌, arith, refl, subst, sym, Vec, Global}
use Rattle.dmf_state.specs.declared.edit.Edit.TheVariants as edit
use Rattle.dmf_state.specs.declared.edit.Move.{Move}
use Rattle.dmf_state.specs.declared.edit.Shutting.{Shutting}
use Rattle.dmf_state.specs.Arc.{capacity_sum, open_arcs_at}
use Rattle.dmf_state.specs.Edit.{applied, moved, numbers, AreOpenWith, IsOpenWith}
use Rattle.dmf_state.specs.Flow.{flow_on}
use Rattle.dmf_state.specs.NetworkState.{NetworkState, IsState, with_flows}
use Rattle.dmf_state.proofs.ChangedState.{IsState-with_cap, IsState-closed}
use Rattle.dmf_state.proofs.ClosedArcs.{HasArcs-open, IsState-all_closed}
use Rattle.dmf_solver.specs.Change as change
use Rattle.dmf_solver.specs.Change.{Becomes, Closes, ClosesArc}
use Rattle.dmf_solver.specs.Drain.{TakesOff}
use Rattle.dmf_solver.specs.Moves.{AreDrainingMoves, AreShuttingMoves}
use Rattle.dmf_solver.specs.Planning.{Plans}
use Rattle.dmf_solver.proofs.draining.ClosedInTurn.{closes-in_turn}
use Rattle.dmf_solver.proofs.draining.DrainedInTurn.{left-in_turn}

module _ (s : NetworkState) (arc old j : ℕ) (moves : Vec Move Global) (same : arc ≡ j) (asked : IsOpenWith s.network j old) where
  -- the arc, by the other number
  found : IsOpenWith s.network arc old
  found = subst (λ k. IsOpenWith s.network k old) (sym same) asked

  -- A capacity within the largest one fits once its arc is drained to it, so the edit is a plan of the change.
  pub cap-plans : (cap largest : ℕ) → largest + (capacity_sum s.network.arcs - old) + 1 ≡ 2 ^ 64 → cap ≤ largest → AreDrainingMoves s arc cap moves.items
      → Plans s (change.Cap j cap) (edit.Cap arc old cap moves)
  cap-plans cap largest is_largest at_most drained = record {
    kind = (same, refl);
    fits = record {
      arc = found;
      moves = drained.fit;
      applied = IsState-with_cap (with_flows s (moved moves.items s.flows)) arc cap drained.state found.is_there found.is_open drained.drains.within
          (omega (arith, is_largest, at_most, found.has_cap));
    };
    becomes = subst (λ k. Becomes s (change.Cap k cap) (applied (edit.Cap arc old cap moves) s)) same (refl, drained.drains);
    moves = drained.differ;
  }

  -- Closing fits once the arc is drained.
  pub close-plans : AreDrainingMoves s arc 0 moves.items → Plans s (change.Close j) (edit.Close arc old moves)
  close-plans drained = record {
    kind = same;
    fits = record {
      arc = found;
      moves = drained.fit;
      applied = IsState-closed (with_flows s (moved moves.items s.flows)) arc drained.state found.is_there drained.drains.within;
    };
    becomes = subst (λ k. ClosesArc s k (applied (edit.Close arc old moves) s)) same (refl, drained.drains);
    moves = drained.differ;
  }

  -- The drain takes off the flow on the arc above the limit.
  pub takes-off : (limit : ℕ) → AreDrainingMoves s arc limit moves.items
      → TakesOff s.network (flow_on s.flows j - limit) s.flows (moved moves.items s.flows)
  takes-off limit drained = subst (λ k. TakesOff s.network (flow_on s.flows k - limit) s.flows (moved moves.items s.flows)) same drained.takes_off

  -- The drain takes off all that flows on the arc.
  pub takes-all_off : AreDrainingMoves s arc 0 moves.items → TakesOff s.network (flow_on s.flows j) s.flows (moved moves.items s.flows)
  takes-all_off drained =
      let all : flow_on s.flows j - 0 ≡ flow_on s.flows j = omega arith in
      subst (λ amount. TakesOff s.network amount s.flows (moved moves.items s.flows)) all (takes-off 0 drained)

-- Shutting fits once its arcs are drained.
pub shut-plans : (s : NetworkState) (arcs : Vec Shutting Global) (moves : Vec Move Global) (v : ℕ) → IsState s → AreOpenWith 0 arcs.items s.network
    → AreShuttingMoves s (numbers arcs.items) moves.items → numbers arcs.items ≡ open_arcs_at v 1 s.network.arcs
    → Plans s (change.Shut v) (edit.Shut arcs moves)
shut-plans s arcs moves v state are drained all =
    let last = moved moves.items s.flows in
    let left = left-in_turn s (numbers arcs.items) s.flows last state (HasArcs-open 0 arcs.items s.network are) drained.drains in
    record {
      kind = tt;
      fits = record { arc = are; moves = drained.fit; applied = IsState-all_closed 0 arcs.items s.network last drained.state are left.without_flow };
      becomes = subst (λ js. Closes js s (applied (edit.Shut arcs moves) s)) all (closes-in_turn s.network arcs.items s.flows last drained.drains);
      moves = drained.differ;
    }
