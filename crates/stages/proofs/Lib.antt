-- The laws that both policies share. Assumes nothing.
pub mod Finding
pub mod Turning
pub mod Hitting
pub mod Staging
pub mod Lawful
pub mod Entering
