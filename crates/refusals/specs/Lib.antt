-- The definitions that the contract of `number` cites. Assumes nothing.
pub mod Refusals
