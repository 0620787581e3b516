-- The slots of a path's links, and the pushes that they hold.
pub mod FoundLink
pub mod Leaving
pub mod Released
pub mod Settled
pub mod SettledRoom
pub mod SettledSent
pub mod Settling
pub mod Splitting
pub mod TurnSlots
pub mod WholePath
