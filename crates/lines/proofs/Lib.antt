-- The laws of lines. Assumes nothing.
pub mod Digits
pub mod Puts
pub mod Copying
pub mod Numbering
pub mod Texts
pub mod Laws
pub mod Cases
