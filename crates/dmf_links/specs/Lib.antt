pub mod Pair
pub mod Links
pub mod LinkTable
pub mod Building
pub mod Stack
pub mod Numbers
