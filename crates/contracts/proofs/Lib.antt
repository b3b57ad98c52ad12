-- The laws of the calls, over the policy. Assumes nothing.
pub mod Capacity
pub mod Accepting
pub mod Exact
pub mod Reading
pub mod Equal
pub mod Passing
pub mod Outcomes
pub mod ByRules
pub mod Refusing
