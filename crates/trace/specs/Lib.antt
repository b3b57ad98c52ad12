-- The definitions that the contracts of `trace` cite. Assumes nothing.
pub mod Reading
pub mod Steps
