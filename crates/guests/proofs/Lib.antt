-- The laws of the example. Assumes nothing.
pub mod Laws
