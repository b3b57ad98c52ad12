-- The laws that answer the needs of `car`. Assumes nothing.
pub mod Updating
pub mod Calling
pub mod Replacing
