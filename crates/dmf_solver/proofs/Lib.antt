pub mod DrainedNext
mod Emptied
pub mod cuts
pub mod solving
pub mod draining
pub mod pairs
pub mod kept
pub mod changes
