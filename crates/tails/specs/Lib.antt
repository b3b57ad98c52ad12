-- The definitions that the contracts of `tails` cite. Assumes nothing.
pub mod Tails
