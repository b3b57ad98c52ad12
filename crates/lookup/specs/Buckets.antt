-- Which bucket a page belongs to, and how many buckets, places and words a lookup has. Proofs use of `bucket_of` only that it is below k
-- (proofs/Buckets.antt): another way to choose a bucket changes this file, and the function `bucket_of` with its own laws (proofs/Dividing.antt). Assumes nothing.
use Rattle.std.specs.Prelude.{ℕ, ◌+◌, ◌*◌, ◌/◌, ◌%◌}
use Rattle.cells.specs.Cells.{words_of}

-- the bucket of the page p, one of k
unfoldable pub bucket_of : ℕ → ℕ → ℕ
bucket_of k p = p % k

-- the hint for k buckets, with which `bucket_of` mostly needs no division: no answer depends on it
unfoldable pub inverse_of : ℕ → ℕ
inverse_of k = 4294967296 / k

-- how many buckets a lookup of capacity c has: never none
unfoldable pub buckets_of : ℕ → ℕ
buckets_of c = 3 * c + 1

-- how many places it has, and how many words it takes
abbrev pub places_of : ℕ → ℕ
places_of c = 3 * c

unfoldable pub words_needed : ℕ → ℕ
words_needed c = places_of c + words_of (places_of c + buckets_of c)
