-- The walk from the start towards the goal.
pub mod LastNode
pub mod NearGoal
pub mod OneTurn
pub mod SoFar
pub mod Walking
