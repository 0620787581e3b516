pub mod Solved
pub mod SolveRun
pub mod CheckRun
pub mod Laws
