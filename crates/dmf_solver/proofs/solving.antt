-- Augmenting along least paths.
pub mod AtOnce
pub mod Augmenting
pub mod GreatestSearch
pub mod ResidualSteps
pub mod RoomLeaving
pub mod SolvedEdit
pub mod Solving
pub mod SolvingSearch
