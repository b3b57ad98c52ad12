-- Every well-formed state has a writing. Assumes nothing.
pub mod Words
pub mod Changes
pub mod Sizes
pub mod Steps
pub mod Free
pub mod Building
pub mod Laying
pub mod Slotting
pub mod Every
pub mod Cases
