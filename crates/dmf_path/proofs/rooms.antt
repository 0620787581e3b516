-- Rooms, and how pushes change them.
pub mod Lowered
pub mod Pushed
pub mod PushedPairs
pub mod Pushing
pub mod RoomLeft
pub mod RoomsSet
