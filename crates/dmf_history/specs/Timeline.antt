-- What a history stands for: a list of whole states, the place of the present one, and how many states are kept before it.
-- Public: a public contract says no more than this.
use Rattle.std.specs.Prelude.{ℕ, ◌≡◌, ◌+◌, ◌-◌, ◌<◌, ◌≤◌, List, [], ◌∷◌, ◌++◌, length, take, drop, slice_get, Some, nat_lt, if◌then◌else◌}
use Rattle.dmf_state.specs.declared.edit.Edit.{Edit}
use Rattle.dmf_state.specs.NetworkState.{NetworkState}
use Rattle.dmf_state.specs.Edit.{applied, Fits}
use Rattle.dmf_state.specs.Revert.{reverted, Stands}

-- the states, the oldest first; the place of the present one, counted from 0; and the bound: the largest number of states that are kept
-- before the present one
pub record Timeline : Type 0 where
  pub states : List NetworkState
  pub place : ℕ
  pub bound : ℕ

-- The place is in the list, and the list has at most one state more than the bound, which is at most 1,000,000.
pub record IsTimeline (t : Timeline) : Type 0 where
  pub place : t.place < length t.states
  pub at_most : length t.states ≤ t.bound + 1
  pub bound : t.bound ≤ 1000000

-- `s` is the state at the place.
abbrev pub IsPresent : Timeline → NetworkState → Type 0
IsPresent t s = slice_get t.states t.place ≡ Some s

-- how many states stand past the place
abbrev pub future_of : Timeline → ℕ
future_of t = length t.states - (t.place + 1)

-- one state, the present one
abbrev pub start : ℕ → NetworkState → Timeline
start bound s = record { states = s ∷ []; place = 0; bound = bound }

-- The states past the place are dropped. The new state is appended and becomes the present one.
abbrev pub extended : Timeline → NetworkState → Timeline
extended t s = record { states = take (t.place + 1) t.states ++ s ∷ []; place = t.place + 1; bound = t.bound }

-- The oldest state is forgotten.
abbrev pub forgotten : Timeline → Timeline
forgotten t = record { states = drop 1 t.states; place = t.place - 1; bound = t.bound }

-- If more states than the bound stand before the present one, the oldest is forgotten.
abbrev pub within_bound : Timeline → Timeline
within_bound t = if nat_lt t.bound t.place then forgotten t else t

-- The states past the place are dropped. The new state is appended and becomes the present one, with at most the bound of states kept
-- before it.
abbrev pub appended : Timeline → NetworkState → Timeline
appended t s = within_bound (extended t s)

-- so many steps back
abbrev pub back : Timeline → ℕ → Timeline
back t steps = record { states = t.states; place = t.place - steps; bound = t.bound }

-- so many steps forward
abbrev pub forward : Timeline → ℕ → Timeline
forward t steps = record { states = t.states; place = t.place + steps; bound = t.bound }

-- The edit fits the present state.
pub record FitsPresent (edit : Edit) (t : Timeline) : Type 0 where
  pub state : NetworkState
  pub present : IsPresent t state
  pub fits : Fits edit state

-- `u` is the timeline `t` with the state appended that the edit makes of its present state.
pub record Appends (edit : Edit) (t u : Timeline) : Type 0 where
  pub state : NetworkState
  pub present : IsPresent t state
  pub gives : u ≡ appended t (applied edit state)

-- The step forward from this place leads to a state with more arcs.
pub record AddsArcs (t : Timeline) (place : ℕ) : Type 0 where
  pub before : NetworkState
  pub after : NetworkState
  pub before_is : slice_get t.states place ≡ Some before
  pub after_is : slice_get t.states (place + 1) ≡ Some after
  pub more : length before.network.arcs < length after.network.arcs

-- The edit made the present state of the one before it: it stands in the present state, and reverting it gives the state one step back.
pub record LeadsBack (edit : Edit) (t : Timeline) : Type 0 where
  pub state : NetworkState
  pub present : IsPresent t state
  pub steps : 0 < t.place
  pub stands : Stands edit state
  pub before : IsPresent (back t 1) (reverted edit state)

-- The edit makes the next state of the present one: it fits the present state, and applying it gives the state one step forward.
pub record LeadsOn (edit : Edit) (t : Timeline) : Type 0 where
  pub state : NetworkState
  pub present : IsPresent t state
  pub fits : Fits edit state
  pub after : IsPresent (forward t 1) (applied edit state)
