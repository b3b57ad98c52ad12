-- The laws that answer the needs of `store`. Assumes nothing.
pub mod Steps
pub mod Slots
pub mod Finding
pub mod Ghosts
pub mod Ends
pub mod Order
pub mod Placing
pub mod Exchanging
pub mod Entering
pub mod Laws
