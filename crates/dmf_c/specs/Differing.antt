-- The moves that change a flow.
-- Private: only contracts inside the crate and proofs use this.
use Rattle.std.specs.Prelude.{◌==◌, if◌then◌else◌, List, [], ◌∷◌}
use Rattle.dmf_state.specs.declared.edit.Move.{Move}

abbrev pub differing : List Move → List Move
differing [] = []
differing (m ∷ moves) = if m.from == m.to then differing moves else m ∷ differing moves
