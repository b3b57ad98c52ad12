-- The definitions that the contracts on answers cite. Assumes nothing.
pub mod Answers
