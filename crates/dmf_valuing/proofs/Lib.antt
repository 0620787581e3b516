pub mod PartRows
pub mod Numbered
pub mod FromLosses
pub mod OneText
pub mod WithSeconds
pub mod Ending
