pub mod Appending
pub mod Edits
pub mod Copied
