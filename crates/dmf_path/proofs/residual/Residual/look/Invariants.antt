use Rattle.std.proofs.Common.{◌≡◌, ◌≢◌, ℕ, ◌+◌, ◌≤◌, ◌<◌, slice_index}
use Rattle.dmf_links.specs.LinkTable.{links_of}
use Rattle.dmf_path.specs.Astray.{LeadsAstray}
use Rattle.dmf_path.proofs.residual.Residual.look.Given as goal

abbrev pub invariant-loop-place : goal.invariant-loop-place
invariant-loop-place l = record {
  from : l.from ≤ l.skipped;
  to : l.skipped ≤ l.end;
  first : (p : ℕ) → l.from ≤ p → p < l.skipped → p < l.place → 0 < slice_index l.self.rooms.items p
      → slice_index l.labels (slice_index l.self.table.value.heads.items p) + 1 ≢ l.wanted.label;
  only : (p : ℕ) → l.from ≤ p → p < l.place → 0 < slice_index l.self.rooms.items p
      → slice_index l.labels (slice_index l.self.table.value.heads.items p) + 1 ≡ l.wanted.label
      → LeadsAstray l.ball (links_of l.self.table.value) l.wanted.goal l.wanted.left p;
}
