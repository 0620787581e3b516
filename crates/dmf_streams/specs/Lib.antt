pub mod Reading
pub mod WholeText
pub mod Pending
pub mod KeptLine
pub mod Input
pub mod Status
