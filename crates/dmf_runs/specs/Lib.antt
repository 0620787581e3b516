pub mod CommandText
pub mod Streams
pub mod Line
pub mod Run
pub mod Laws
pub mod Outcome
pub mod WrittenLine
pub mod Session
