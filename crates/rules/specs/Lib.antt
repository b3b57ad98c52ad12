-- The rules, docs/RULES.md. Assumes nothing.
pub mod Lists
pub mod State
pub mod Calls
pub mod Ghosts
pub mod Stages
pub mod Arc
pub mod Car
pub mod Check
pub mod Counts
pub mod Batch
pub mod Agreeing
pub mod Demand3
pub mod Public
pub mod Decimal
pub mod Program
