-- Windows: for each node, where among its links those lie whose opposites have room.
-- Private: only contracts inside the crate and proofs use this.
use Rattle.std.specs.Prelude.{ℕ, ◌≡◌, ◌+◌, ◌<◌, ◌≤◌, false, length, slice_index}
use Rattle.dmf_node.specs.Node.{IsNode}
use Rattle.dmf_links.specs.Links.{Links, LiesAt}
use Rattle.dmf_path.specs.declared.windows.Windows.{Windows}
use Rattle.dmf_path.specs.Residual.{ResidualLinks}

-- The window of each node is a range of its places.
pub record AreRanges (l : Links) (windows : Windows) : Type 0 where
  pub from_each : length windows.from.items ≡ l.nodes + 1
  pub end_each : length windows.end.items ≡ l.nodes + 1
  pub first : (v : ℕ) → IsNode l.nodes v → slice_index l.first v ≤ slice_index windows.from.items v
  pub order : (v : ℕ) → IsNode l.nodes v → slice_index windows.from.items v ≤ slice_index windows.end.items v
  pub last : (v : ℕ) → IsNode l.nodes v → slice_index windows.end.items v ≤ slice_index l.first (v + 1)

-- The place is in the window of the node.
pub record IsWithin (windows : Windows) (v p : ℕ) : Type 0 where
  pub from : slice_index windows.from.items v ≤ p
  pub below : p < slice_index windows.end.items v

-- The windows are ranges, and right in this residual network, in which no room rises: a link whose opposite has room is in the window of
-- its node.
pub record AreWindows (windows : Windows) (r : ResidualLinks) : Type 0 where
  pub falls : r.takes_back ≡ false
  pub ranges : AreRanges r.links windows
  pub open_links : (v p : ℕ) → IsNode r.links.nodes v → LiesAt r.links v p → 0 < slice_index r.rooms (slice_index r.links.partners p)
      → IsWithin windows v p
