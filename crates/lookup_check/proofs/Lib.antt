-- The laws of the exact test of a lookup. For callers: Exact, which has both directions. Walking and Checking answer the needs of the code. Assumes nothing.
pub mod Cases
pub mod Checking
pub mod Ends
pub mod Exact
pub mod Steps
pub mod Walking
