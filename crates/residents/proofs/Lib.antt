-- The laws of residents. Assumes nothing.
pub mod Words
pub mod Moves
pub mod Changes
pub mod Steps
pub mod Slots
pub mod Making
pub mod Needs
pub mod Exchange
pub mod Tests
pub mod Checking
pub mod Cases
