-- The definitions that the contracts of `input_buffer` cite. Assumes nothing.
pub mod Pieces
