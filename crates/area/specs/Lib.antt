-- The definitions that the contracts of `area` cite. Assumes nothing.
pub mod Part
pub mod Area
pub mod Stored
