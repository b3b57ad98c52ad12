-- The definition that the contracts of `pace` cite. Assumes nothing.
pub mod Ready
