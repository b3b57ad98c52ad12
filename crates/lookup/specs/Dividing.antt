-- What `belongs` divides by: a number of buckets, and numbers that go with it. Assumes nothing.
use Rattle.std.specs.Prelude.{◌≡◌, ℕ, ◌*◌, ◌%◌, ◌<◌, ◌≤◌}
use Rattle.lookup.specs.declared.Divisor.{Divisor}
use Rattle.lookup.specs.Buckets.{bucket_of}

-- k buckets, so few that no product of what goes with them passes a word; `part` is only a guess of 2^40 / k that is not too large
pub record Divides (d : Divisor) : Type 0 where
  pub some : 0 < d.k
  pub few : d.k ≤ 4096
  pub close : d.near ≡ 4194304 % d.k
  pub distant : d.far ≡ 17592186044416 % d.k
  pub share : d.part * d.k ≤ 1099511627776

pub record DivisorOf (k : ℕ) (d : Divisor) : Type 0 where
  pub is : d.k ≡ k
  pub divides : Divides d

-- r has the bucket of x, and is small
pub record Folded (d : Divisor) (x r : ℕ) : Type 0 where
  pub same : bucket_of d.k r ≡ bucket_of d.k x
  pub small : r ≤ 9437184 * d.k
