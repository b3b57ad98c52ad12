-- The laws of `replay`. Assumes nothing.
pub mod Laws
