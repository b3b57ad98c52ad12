-- The runs that demand 3 speaks of, and what it says of them. Assumes nothing.
pub mod Runs
pub mod Paying
