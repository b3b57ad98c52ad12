-- The laws of a listing. Assumes nothing.
pub mod Rising
pub mod Joined
pub mod Slots
pub mod Records
pub mod Refusing
pub mod ByRules
pub mod Equal
pub mod Laws
pub mod Finish
pub mod Looping
