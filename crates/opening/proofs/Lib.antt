-- The laws of `open`, and those by which a public call closes. Assumes nothing.
pub mod Laws
pub mod Public
