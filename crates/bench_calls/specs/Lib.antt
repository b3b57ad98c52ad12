-- The definitions that the contracts of `bench_calls` cite. Assumes nothing.
pub mod Numbers
