-- `lookup::inverse_of` meets its contract. The quotient is the definition. Assumes nothing.
use Rattle.lookup.specs.Buckets.{inverse_of}
use Rattle.std.proofs.Common.{rules}
use Rattle.lookup.proofs.inverse_of.Goals as goal

pub returns : goal.returns
unfolding inverse_of
returns c = search rules
