-- The laws of pieces. Assumes nothing.
pub mod Laws
