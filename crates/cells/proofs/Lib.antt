-- The laws of cells. Assumes nothing.
pub mod Laws
