-- The laws that answer the needs of `arc`. Assumes nothing.
pub mod Plain
pub mod Updating
pub mod Trimming
pub mod Replacing
pub mod Calling
pub mod Fewer
