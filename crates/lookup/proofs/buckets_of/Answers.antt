-- `lookup::buckets_of` meets its contract. The sum is the definition. Assumes nothing.
use Rattle.lookup.specs.Buckets.{buckets_of}
use Rattle.std.proofs.Common.{rules}
use Rattle.lookup.proofs.buckets_of.Goals as goal

pub returns : goal.returns
unfolding buckets_of
returns c = search rules
