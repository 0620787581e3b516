pub mod paths
pub mod labels
pub mod walks
pub mod slots
pub mod rooms
pub mod pairs
pub mod searches
