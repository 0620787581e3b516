use Rattle.std.proofs.Common.{◌≡◌, vec_capacity}
use Rattle.dmf_links.specs.LinkTable.{links_of}
use Rattle.dmf_path.specs.Held.{way_of}
use Rattle.dmf_path.specs.Residual.{residual_of, with_settled_rooms}
use Rattle.dmf_path.specs.Searching.{MaySkip}
use Rattle.dmf_path.proofs.walks.OneTurn.{work_left}
use Rattle.dmf_path.proofs.slots.TurnSlots.{IsOnWay}
use Rattle.dmf_path.proofs.walk.walk.Given as goal

abbrev pub invariant-loop-node : goal.invariant-loop-node
invariant-loop-node l = record {
  on : IsOnWay (residual_of l.links) l.labels l.current (with_settled_rooms (residual_of l.fn.links) (way_of l.fn.trail)) (way_of l.trail) l.node;
  skipped : MaySkip l.fn.noted (with_settled_rooms (residual_of l.fn.links) (way_of l.fn.trail)) l.labels l.fn.current
      → MaySkip l.noted (with_settled_rooms (residual_of l.fn.links) (way_of l.fn.trail)) l.labels l.current;
  start : l.trail.start ≡ l.fn.trail.start;
  goal : l.trail.goal ≡ l.fn.trail.goal;
  capacity : vec_capacity l.trail.slots ≡ vec_capacity l.fn.trail.slots;
}

abbrev pub decreases-loop-node : goal.decreases-loop-node
decreases-loop-node l = work_left (links_of l.fn.links.table.value) l.labels l.fn.trail.start l.current l.node
