-- The laws of tails. Assumes nothing.
pub mod Laws
