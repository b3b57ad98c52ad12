-- The laws that answer the needs of `inner_calls`. Assumes nothing.
pub mod Both
pub mod Calling
pub mod Asking
pub mod Updating
pub mod Replacing
pub mod Inserting
pub mod Laws
