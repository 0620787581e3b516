-- The pairs of links that stand for arcs.
pub mod ArcPairs
pub mod ByArc
pub mod CarryingPairs
pub mod FlowsRead
pub mod ListedMoves
pub mod ListedOpen
pub mod NetworkPairs
pub mod ResidualPairs
pub mod Untouched
