-- The result of appending an edit to a timeline.
-- Private: only contracts inside the crate and proofs use this.
use Rattle.std.specs.Prelude.{ℕ, ◌≡◌, Result, Ok, Err, pos}
use Rattle.dmf_state.specs.declared.edit.Edit.{Edit}
use Rattle.dmf_state.specs.Flow.{flow_value}
use Rattle.dmf_state.specs.NetworkState.{NetworkState}
use Rattle.dmf_history.specs.Timeline.{Timeline, IsPresent, Appends}
use Rattle.dmf_session.specs.declared.command.Reply.{Reply}
use Rattle.dmf_session.specs.declared.command.Reply.TheVariants.{Value}
use Rattle.dmf_session.specs.declared.command.Refusal.{Refusal}
use Rattle.dmf_session.specs.declared.command.Refusal.TheVariants.{NoMemory}

-- The edit is appended, and this is the value of the new present state.
pub record AppendsValued (edit : Edit) (t : Timeline) (value : ℕ) (u : Timeline) : Type 0 where
  pub state : NetworkState
  pub present : IsPresent u state
  pub appends : Appends edit t u
  pub value_is : pos value ≡ flow_value state.network state.flows

-- The edit is appended, and the reply is the value; or memory is refused, and nothing has changed.
abbrev pub AnswersAppended : Edit → Timeline → Result Reply Refusal → Timeline → Type 0
AnswersAppended edit t (Ok (Value value)) u = AppendsValued edit t value u
AnswersAppended edit t (Err NoMemory) u = u ≡ t
AnswersAppended edit t result u = ⊥
