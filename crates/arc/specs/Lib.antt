-- The definitions that the contracts of `arc` cite. Assumes nothing.
pub mod Insert
