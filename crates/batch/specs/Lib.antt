-- The contracts of a batch. Assumes nothing.
pub mod Outcomes
pub mod Writing
