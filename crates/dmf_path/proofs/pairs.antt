-- The pairs of a search: touched ones, spare ones, and lists of them.
pub mod Collecting
pub mod Covering
pub mod IndicesAtNode
pub mod Inserted
pub mod PairLists
pub mod PutApart
pub mod SparePairs
pub mod TouchedIndices
pub mod Untouched
