-- The laws of `bench_calls`. Assumes nothing.
pub mod Laws
