-- The definitions that the contracts of `ghosts` cite. Assumes nothing.
pub mod Ghosts
