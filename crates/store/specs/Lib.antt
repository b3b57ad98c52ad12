-- The definitions that the contracts of `store` cite. Assumes nothing.
pub mod Store
