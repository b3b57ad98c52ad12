-- The laws of buckets: all that is known of `bucket_of` and `buckets_of`. Assumes nothing.
use Rattle.std.proofs.Common.{◌≡◌, ℕ, ◌+◌, ◌*◌, ◌<◌, mod-lt, arith}
use Rattle.lookup.specs.Buckets.{bucket_of, buckets_of}

pub bucket_below : (k p : ℕ) → 0 < k → bucket_of k p < k
unfolding bucket_of
bucket_below k p h = mod-lt p h

pub buckets_some : (c : ℕ) → 0 < buckets_of c
unfolding buckets_of
buckets_some c = omega arith

-- as many buckets as places, and one
pub buckets_count : (c : ℕ) → buckets_of c ≡ 3 * c + 1
unfolding buckets_of
buckets_count c = omega arith
