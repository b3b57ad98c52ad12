-- The contracts of the calls, over the policy. Assumes nothing.
pub mod Policy
pub mod Inner
pub mod Outer
pub mod Writing
pub mod Equal
