pub mod Rows
pub mod VitalRun
pub mod Laws
pub mod PartRows
