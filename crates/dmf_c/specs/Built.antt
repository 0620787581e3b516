-- The result of building a network of arrays.
-- Private: only contracts inside the crate and proofs use this.
use Rattle.std.specs.Prelude.{ℕ, ◌≡◌, ◌⊎◌, Result, Ok, Err}
use Rattle.dmf_state.specs.declared.fault.NetFault.{NetFault}
use Rattle.dmf_state.specs.declared.fault.NetFault.TheVariants.{NoMemory, NoSuchNode, TooManyArcs, SumTooLarge}
use Rattle.dmf_state.specs.NetworkState.{NetworkState}
use Rattle.dmf_c.specs.declared.building.BadArc.{BadArc}
use Rattle.dmf_c.specs.Building.{RefusedArc, fault_code}
use Rattle.dmf_c.specs.Status.{DMF_NO_MEMORY, DMF_NO_SUCH_NODE, DMF_TOO_MANY_ARCS, DMF_SUM_TOO_LARGE}

abbrev pub net_fault_code : NetFault → ℕ
net_fault_code NoMemory = DMF_NO_MEMORY
net_fault_code NoSuchNode = DMF_NO_SUCH_NODE
net_fault_code TooManyArcs = DMF_TOO_MANY_ARCS
net_fault_code SumTooLarge = DMF_SUM_TOO_LARGE

-- the same state, or the same number at the same index
abbrev pub Same : Result NetworkState BadArc → Result NetworkState RefusedArc → Type 0
Same (Ok s) (Ok t) = s ≡ t
Same (Err bad) (Err arc) = (bad.code ≡ fault_code arc.fault) × (bad.index ≡ arc.index)
Same result built = ⊥

-- memory was refused
abbrev pub IsOutOfMemory : Result NetworkState BadArc → Type 0
IsOutOfMemory (Err bad) = bad.code ≡ DMF_NO_MEMORY
IsOutOfMemory (Ok s) = ⊥

-- Memory was refused, or this is the result.
abbrev pub TellsBuilt : Result NetworkState BadArc → Result NetworkState RefusedArc → Type 0
TellsBuilt result built = IsOutOfMemory result ⊎ Same result built
