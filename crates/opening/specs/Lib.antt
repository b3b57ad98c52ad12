-- The definitions that the contract of `open` cites. Assumes nothing.
pub mod Opening
