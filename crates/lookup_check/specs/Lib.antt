-- The definitions that the contracts of `lookup_check` cite. Assumes nothing.
pub mod Check
