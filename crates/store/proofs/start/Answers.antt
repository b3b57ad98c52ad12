-- `store::start` meets its contract. Assumes nothing.
use Rattle.store.proofs.Order.{start_is}
use Rattle.store.proofs.start.Goals as goal

pub returns : goal.returns
returns c = start_is _ _ c.requires _ _ (rw c.number-l.ensures at c.first.ensures)
