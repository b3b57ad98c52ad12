-- The laws of numbers. Assumes nothing.
pub mod Bounds
pub mod Examples
pub mod Laws
pub mod Loop
pub mod Prefix
pub mod Unique
