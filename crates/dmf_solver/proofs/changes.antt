-- What a change makes of a state.
pub mod OneOutcome
pub mod SomeOutcome
