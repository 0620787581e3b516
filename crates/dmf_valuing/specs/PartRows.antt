-- The rows of the parts that a run leaves out in turn, as they follow from losses.
-- Private: only contracts inside the crate and proofs use this.
use Rattle.std.specs.Prelude.{ℕ, ◌≡◌, ◌⊎◌, ◌-◌, ◌==◌, ◌++◌, All, List, [], ◌∷◌, if◌then◌else◌, length, map}
use Rattle.std.specs.List.{range_with_len}
use Rattle.dmf_state.specs.Network.{Network}
use Rattle.dmf_text.specs.Judging.{Line}
use Rattle.dmf_vital.specs.Worst.{AreWorst, IsArcLoss, IsNodeLoss, IsPairLoss}
use Rattle.dmf_vital.specs.declared.worst.NumberedLoss.{NumberedLoss}
use Rattle.dmf_streams.specs.declared.fault.EngineFault.{EngineFault}
use Rattle.dmf_streams.specs.declared.fault.EngineFault.TheVariants.{NoMemory, NoRoom}
use Rattle.dmf_valuing.specs.VitalRun.{LacksRoom}
use Rattle.dmf_valuing.specs.declared.rows.Numbers.{Numbers}
use Rattle.std.specs.Option.{option_to_list}
use Rattle.dmf_valuing.specs.declared.parts.Parts.{Parts}
use Rattle.dmf_valuing.specs.declared.parts.Parts.TheVariants.{Arcs, Nodes, Seconds, WorstArcs, WorstNodes, WorstPairs}
use Rattle.dmf_valuing.specs.Rows.{AreArcRows, AreNodeRows, AreSecondRows, AreWorstArcRows, AreWorstNodeRows, AreWorstPairRows, Row, inner_nodes, row_fields}

-- The rows are those of such parts.
abbrev pub ArePartRows : Parts → Network → List Row → Type 0
ArePartRows Arcs = AreArcRows
ArePartRows Seconds = AreSecondRows
ArePartRows Nodes = AreNodeRows
ArePartRows (WorstArcs most) = AreWorstArcRows most
ArePartRows (WorstNodes most) = AreWorstNodeRows most
ArePartRows (WorstPairs most) = AreWorstPairRows most

-- ---- losses

-- the loss without the one arc or node of this number
abbrev pub single : ℕ → ℕ → NumberedLoss
single number loss = record { number = number; second = 0; loss = loss }

-- They are such losses, of just these numbers.
pub record AreLossesOf (IsSuch : NumberedLoss → Type 0) (numbers : List ℕ) (losses : List NumberedLoss) : Type 0 where
  pub numbers_are : map (λ one. one.number) losses ≡ numbers
  pub such : All IsSuch losses

-- They are the losses of such parts.
abbrev pub AreLossesOfParts : Parts → Network → List NumberedLoss → Type 0
AreLossesOfParts Arcs n = AreLossesOf (IsArcLoss n) (range_with_len 1 (length n.arcs))
AreLossesOfParts Seconds n = AreLossesOf (IsArcLoss n) (range_with_len 1 (length n.arcs))
AreLossesOfParts Nodes n = AreLossesOf (IsNodeLoss n) (inner_nodes n)
AreLossesOfParts (WorstArcs most) n = AreWorst (IsArcLoss n) most
AreLossesOfParts (WorstNodes most) n = AreWorst (IsNodeLoss n) most
AreLossesOfParts (WorstPairs most) n = AreWorst (IsPairLoss n) most

-- ---- their rows

-- the number of an arc or a node, or both numbers of a pair
abbrev pub numbers_of : NumberedLoss → List ℕ
numbers_of one = one.number ∷ (if one.second == 0 then [] else one.second ∷ [])

-- the numbers, and what is left of a value
abbrev pub loss_row : ℕ → NumberedLoss → Row
loss_row value one = numbers_of one ++ (value - one.loss) ∷ []

-- the numbers of a row
abbrev pub row_of : Numbers → Row
row_of row = row.first ∷ row.second ∷ option_to_list row.third

-- the fields of its line
abbrev pub fields_of : Numbers → Line
fields_of row = row_fields (row_of row)

-- ---- want of room

-- A run over these parts lacks room for second arcs, if it needs any.
abbrev pub PartsLackRoom : Parts → Network → Type 0
PartsLackRoom Arcs n = ⊥
PartsLackRoom Seconds n = LacksRoom n
PartsLackRoom Nodes n = ⊥
PartsLackRoom (WorstArcs most) n = ⊥
PartsLackRoom (WorstNodes most) n = ⊥
PartsLackRoom (WorstPairs most) n = ⊥

-- Memory was refused, or there is no room, where it is lacking.
abbrev pub IsWant : Type 0 → EngineFault → Type 0
IsWant Lacking told = (told ≡ NoMemory) ⊎ ((told ≡ NoRoom) × Lacking)
