-- What flows through a node.
-- Public: a public contract says no more than this.
use Rattle.std.specs.Prelude.{ℕ, ◌==◌, ◌&&◌, not, if◌then◌else◌, List, sum_by}
use Rattle.std.specs.List.{zip}
use Rattle.dmf_state.specs.declared.arc.Arc.{Arc}
use Rattle.dmf_state.specs.Network.{Network}

-- the flow on an arc, if it leads from node `v` to another
abbrev pub part_off : ℕ → Arc × ℕ → ℕ
part_off v p = if p.0.tail == v && not (p.0.head == v) then p.1 else 0

-- the flow on all of these arcs
abbrev pub flow_through : Network → List ℕ → ℕ → ℕ
flow_through n flows v = sum_by (part_off v) (zip n.arcs flows)
