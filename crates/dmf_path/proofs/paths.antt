-- Steps, paths and least paths.
pub mod LeastTrail
pub mod LinkSteps
pub mod Loops
pub mod OneLeast
pub mod OpenPaths
pub mod Ranks
pub mod Reaching
pub mod Returning
pub mod ShortestPaths
pub mod SomeLeast
pub mod Steps
