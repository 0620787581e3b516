-- Greatest flows, least cuts and sides.
pub mod Crossing
pub mod Enclosing
pub mod Gates
pub mod GreatestFlow
pub mod LargerFlow
pub mod MaxFlowMinCut
pub mod Optimal
pub mod Reached
pub mod SmallestSide
pub mod SomeSide
pub mod WaysOut
