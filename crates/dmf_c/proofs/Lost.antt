-- Arrays that have the losses that were found.
use Rattle.std.proofs.Common.{ℕ, ◌≡◌, ◌<◌, List, length, slice_index, sym, subst}
use Rattle.dmf_state.specs.Network.{Network}
use Rattle.dmf_vital.specs.Loss.{IsLossOfArc, IsLossAt}
use Rattle.dmf_c.specs.Losses.{AreArcLosses, AreNodeLosses}

pub arc-losses : (n : Network) (arcs found after : List ℕ) → after ≡ found → length found ≡ length arcs
    → ((k : ℕ) → k < length found → IsLossOfArc n (slice_index arcs k) (slice_index found k)) → AreArcLosses n arcs after
arc-losses n arcs found after same size each = subst (AreArcLosses n arcs) (sym same) (record { size = size; each = each })

pub node-losses : (n : Network) (nodes found after : List ℕ) → after ≡ found → length found ≡ length nodes
    → ((k : ℕ) → k < length found → IsLossAt n (slice_index nodes k) (slice_index found k)) → AreNodeLosses n nodes after
node-losses n nodes found after same size each = subst (AreNodeLosses n nodes) (sym same) (record { size = size; each = each })
