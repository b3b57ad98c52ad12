-- The definitions that the contracts of `lines` cite. Assumes nothing.
pub mod Lines
