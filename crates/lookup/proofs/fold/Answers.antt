-- `lookup::fold` meets its contract: x less a multiple of k. Assumes nothing.
use Rattle.lookup.proofs.Belonging.{laws}
use Rattle.lookup.proofs.fold.Goals as goal

pub returns : goal.returns
returns c = search laws
