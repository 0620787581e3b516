pub mod Changed
pub mod Optimal
pub mod Answering
pub mod OneAnswer
pub mod Growing
pub mod Replying
pub mod Undoing
pub mod Keeping
