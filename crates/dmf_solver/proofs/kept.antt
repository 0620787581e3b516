-- Kept networks that follow a change.
pub mod Added
pub mod CarryingAdded
pub mod CarryingFollowed
pub mod Followed
pub mod Removed
