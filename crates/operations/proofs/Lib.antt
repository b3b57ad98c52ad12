-- The laws of operations. Assumes nothing.
pub mod Laws
