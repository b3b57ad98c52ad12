-- The definitions that the contracts of both policies cite. Assumes nothing.
pub mod Common
pub mod Stages
