-- Demand 3 of CAR's public calls. Assumes nothing.
pub mod Demand3
