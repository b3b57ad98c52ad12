-- The definitions that the contracts of `listing` cite. Assumes nothing.
pub mod Order
pub mod Steps
pub mod Outcome
pub mod Writing
