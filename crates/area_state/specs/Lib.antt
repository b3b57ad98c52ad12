-- The parts of an area together, the state that they read as, and the changes of both. Assumes nothing.
pub mod Parts
pub mod Changes
pub mod States
