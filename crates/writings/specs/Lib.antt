-- What it is to have a writing, how words are laid from parts, and ARC's states with slots. Assumes nothing.
pub mod Writings
pub mod Laying
pub mod Slotting
