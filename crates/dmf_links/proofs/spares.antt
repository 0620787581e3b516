-- Pairs that are put on spare links, and taken off.
pub mod Coupled
pub mod NodeEnds
pub mod PutOn
pub mod TakenOff
