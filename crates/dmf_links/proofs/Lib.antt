pub mod building
pub mod rooms
pub mod spares
pub mod tables
