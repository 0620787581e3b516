-- What a search keeps.
pub mod Beginning
pub mod Going
pub mod Phases
pub mod SearchTurns
pub mod Searching
