-- The laws of ghost lists. Assumes nothing.
pub mod Parts
pub mod Laws
pub mod Recording
pub mod Tests
pub mod Needs
pub mod Cases
