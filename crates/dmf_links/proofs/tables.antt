-- Where links lie, and when they are the same.
pub mod LinkPlaces
pub mod SameLinks
pub mod Twins
