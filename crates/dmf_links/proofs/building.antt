-- Links made from pairs, walk by walk.
pub mod BuiltLinks
pub mod Counting
pub mod CountingLinks
pub mod Filling
pub mod Numbering
pub mod Putting
pub mod Rising
pub mod Starts
pub mod Sums
