-- `lookup::bucket_of` meets its contract: a number below k that is p less a multiple of k is the remainder, whatever the hint is. Assumes nothing.
use Rattle.lookup.proofs.Dividing.{laws}
use Rattle.lookup.proofs.bucket_of.Goals as goal

pub returns-then-r-k : goal.returns-then-r-k
returns-then-r-k c = search laws

pub returns-then-s-k : goal.returns-then-s-k
returns-then-s-k c = search laws

pub returns : goal.returns
returns c = search laws
