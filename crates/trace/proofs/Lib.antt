-- The laws of traces. Assumes nothing.
pub mod Answers
pub mod Arms
pub mod Checks
pub mod Examples
pub mod Laws
pub mod Prefix
pub mod Turns
