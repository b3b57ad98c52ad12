-- The laws of rings. Assumes nothing.
pub mod Members
pub mod Pigeons
pub mod Links
pub mod Ring
pub mod Moves
pub mod Words
pub mod Reading
pub mod Walks
pub mod Meeting
pub mod Filling
pub mod Family
pub mod Needs
pub mod Cases
