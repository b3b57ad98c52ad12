-- The laws of `replaying`. Assumes nothing.
pub mod Batches
pub mod Beginning
pub mod Headers
pub mod Pieces
pub mod Operating
pub mod Turning
pub mod Whole
