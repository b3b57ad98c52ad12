-- The laws that answer the needs of `public_calls`. Assumes nothing.
pub mod Laws
