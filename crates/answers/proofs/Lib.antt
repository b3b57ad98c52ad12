-- The laws of answers. Assumes nothing.
pub mod Laws
pub mod OneToOne
