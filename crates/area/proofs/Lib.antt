pub mod Part
pub mod Laws
pub mod Storing
pub mod Rooms
