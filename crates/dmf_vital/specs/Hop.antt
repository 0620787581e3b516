-- Residual steps over single arcs.
-- Private: only contracts inside the crate and proofs use this.
use Rattle.std.specs.Prelude.{ℕ, ◌+◌, ◌-◌, Bool, not, if◌then◌else◌}
use Rattle.dmf_state.specs.declared.arc.Arc.{Arc}

-- the node from which the step along an arc leads, or the step against it
abbrev pub from_of : Bool → Arc → ℕ
from_of against arc = if against then arc.head else arc.tail

-- the node to which it leads
abbrev pub to_of : Bool → Arc → ℕ
to_of against arc = if against then arc.tail else arc.head

-- its residual capacity, over an arc with this flow
abbrev pub room_of : Bool → Arc → ℕ → ℕ
room_of against arc flow = if against then flow else arc.cap - flow

-- the direction over the arc of the residual step that a search goes over: from behind it goes over steps the other way
abbrev pub turned : Bool → Bool → Bool
turned back against = if back then not against else against

-- the flow on an arc after a step over it sends an amount
abbrev pub sent : Bool → ℕ → ℕ → ℕ
sent against amount flow = if against then flow - amount else flow + amount
