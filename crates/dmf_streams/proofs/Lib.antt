pub mod Giving
pub mod KeptLineLemmas
pub mod TakingLemmas
pub mod ReplyLemmas
