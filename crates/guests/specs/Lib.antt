-- What the contracts of the example cite. Assumes nothing.
pub mod Guests
