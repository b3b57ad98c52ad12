-- The definitions that the contracts of `inner_calls` cite. Assumes nothing.
pub mod Kinds
