-- The laws of a batch. Assumes nothing.
pub mod Paying
pub mod Refusing
pub mod ByRules
pub mod Equal
pub mod Turning
pub mod Passing
