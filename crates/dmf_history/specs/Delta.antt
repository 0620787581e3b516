-- What a history of edits stands for.
-- Private: only contracts inside the crate and proofs use this.
use Rattle.std.specs.Prelude.{ℕ, ◌≡◌, ◌≤◌, List, [], ◌∷◌, length, take, slice_get, Some}
use Rattle.dmf_state.specs.declared.edit.Edit.{Edit}
use Rattle.dmf_state.specs.NetworkState.{NetworkState, IsState}
use Rattle.dmf_state.specs.Edit.{applied, Fits}
use Rattle.dmf_state.specs.Revert.{reverted}
use Rattle.dmf_history.specs.Timeline.{Timeline}

-- the state before these edits, which reverts them from `s` on, the last one first
abbrev pub before : List Edit → NetworkState → NetworkState
before [] s = s
before (edit ∷ edits) s = reverted edit (before edits s)

-- the state after these edits, which applies them from `s` on, one after the other
abbrev pub after : List Edit → NetworkState → NetworkState
after [] s = s
after (edit ∷ edits) s = after edits (applied edit s)

-- `s` and the states after it: what each edit makes of the state before it
abbrev pub states_from : NetworkState → List Edit → List NetworkState
states_from s [] = s ∷ []
states_from s (edit ∷ edits) = s ∷ states_from (applied edit s) edits

-- the timeline of a present state and the edits before and after it: reverting those before the place leads to the oldest kept state
abbrev pub timeline_of : NetworkState → List Edit → ℕ → ℕ → Timeline
timeline_of present edits place bound =
    record { states = states_from (before (take place edits) present) edits; place = place; bound = bound }

-- The edits begin at a first state. Each fits the state that the edits before it make, and the present state is what the edits before
-- the place make.
pub record AreEdits (present : NetworkState) (edits : List Edit) (place : ℕ) : Type 0 where
  pub within : place ≤ length edits
  pub first : NetworkState
  pub state : IsState first
  pub first_is : before (take place edits) present ≡ first
  pub fit : (k : ℕ) (edit : Edit) → slice_get edits k ≡ Some edit → Fits edit (after (take k edits) first)
  pub present_is : after (take place edits) first ≡ present

-- They are such edits, and there are no more than the bound, which is at most 1,000,000.
pub record AreWithinBound (present : NetworkState) (edits : List Edit) (place bound : ℕ) : Type 0 where
  pub are : AreEdits present edits place
  pub at_most : length edits ≤ bound
  pub limit : bound ≤ 1000000
