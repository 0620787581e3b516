use Rattle.std.proofs.Common.{◌≡◌, ◌≢◌, ℕ, ◌+◌, ◌≤◌, ◌<◌, ◌⊎◌, slice_index}
use Rattle.dmf_links.specs.LinkTable.{links_of}
use Rattle.dmf_path.specs.Astray.{IsOutside}
use Rattle.dmf_path.proofs.residual.Residual.first_inside.Given as goal

abbrev pub invariant-loop-head : goal.invariant-loop-head
invariant-loop-head l = record {
  from : l.from ≤ l.first;
  to : l.first ≤ l.end;
  room : l.first < l.end → 0 < slice_index l.self.rooms.items l.first;
  falls : l.first < l.end → slice_index l.labels (slice_index l.self.table.value.heads.items l.first) + 1 ≡ l.wanted.label;
  none : (i : ℕ) → i < l.head-index → slice_index l.labels (slice_index l.ball.around.queue i) + 1 ≡ l.wanted.label
      → slice_index l.ball.around.labels (slice_index l.ball.around.queue i) ≤ l.wanted.left
      → (p : ℕ) → l.from ≤ p → p < l.first → 0 < slice_index l.self.rooms.items p
      → (slice_index l.self.table.value.heads.items p ≢ slice_index l.ball.around.queue i) ⊎ IsOutside l.ball (links_of l.self.table.value) p;
}
