-- The definitions that the contracts of `empty_cache` cite. Assumes nothing.
pub mod Fresh
