-- The definitions that the contracts of `lent` cite. Assumes nothing.
pub mod Lent
