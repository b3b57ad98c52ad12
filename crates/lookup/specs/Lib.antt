-- The definitions that the contracts of `lookup` cite. Assumes nothing.
pub mod Buckets
pub mod Dividing
pub mod Part
pub mod Lookup
pub mod Changes
