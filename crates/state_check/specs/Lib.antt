-- The definitions that the contract of `state_check` cites. Assumes nothing.
pub mod Check
