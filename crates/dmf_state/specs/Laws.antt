-- What is true of every edit.
-- Public: a public contract says no more than this.
use Rattle.std.specs.Prelude.{◌≡◌}
use Rattle.dmf_state.specs.declared.edit.Edit.{Edit}
use Rattle.dmf_state.specs.NetworkState.{NetworkState}
use Rattle.dmf_state.specs.Edit.{applied, Fits}
use Rattle.dmf_state.specs.Revert.{reverted}

-- If an edit fits two states and makes the same state of both, the two are equal.
abbrev pub HasOneBefore : Type 0
HasOneBefore = (edit : Edit) (s t : NetworkState) → Fits edit s → Fits edit t → applied edit s ≡ applied edit t → s ≡ t

-- Reverting an edit restores the state to which it was applied, flows included.
abbrev pub GivesBack : Type 0
GivesBack = (edit : Edit) (s : NetworkState) → Fits edit s → reverted edit (applied edit s) ≡ s
