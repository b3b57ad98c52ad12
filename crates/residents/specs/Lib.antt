-- The definitions that the contracts of `residents` cite. Assumes nothing.
pub mod Residents
pub mod Changes
pub mod Tests
