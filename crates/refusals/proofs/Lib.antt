-- Theorems about refusals. Assumes nothing.
pub mod OneToOne
