-- The laws of the state check. Assumes nothing.
pub mod Walking
pub mod Lists
pub mod Cases
pub mod Places
pub mod Exact
pub mod Formed
pub mod State
