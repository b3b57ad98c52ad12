-- The definitions that the contracts of `car` cite. Assumes nothing.
pub mod Insert
pub mod Replace
