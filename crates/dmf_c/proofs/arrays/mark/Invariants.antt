use Rattle.std.proofs.Common.{◌≡◌, ℕ, ◌+◌, ◌<◌, slice_index}
use Rattle.std.specs.Prelude.{if◌then◌else◌}
use Rattle.dmf_state.specs.Side.{has_node}
use Rattle.dmf_c.proofs.arrays.mark.Given as goal

-- the nodes before the index are marked
abbrev pub invariant-loop-i : goal.invariant-loop-i
invariant-loop-i l = (k : ℕ) → k < l.i → slice_index l.marks k ≡ (if has_node l.side.ids (k + 1) then 1 else 0)
