-- The laws of an empty cache. Assumes nothing.
pub mod Laws
pub mod Unique
