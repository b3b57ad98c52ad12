-- The definitions that the contracts of `replaying` cite. Assumes nothing.
pub mod Asked
pub mod Feeding
pub mod Header
pub mod Pending
