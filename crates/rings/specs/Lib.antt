-- The definitions that the contracts of `rings` cite. Assumes nothing.
pub mod Members
pub mod Rings
pub mod Walks
