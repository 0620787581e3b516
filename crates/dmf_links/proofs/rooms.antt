-- The rooms of links, and their flags.
pub mod Flagging
pub mod Flags
pub mod PairRead
