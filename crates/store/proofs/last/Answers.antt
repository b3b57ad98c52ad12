-- `store::last` meets its contract. Assumes nothing.
use Rattle.store.proofs.Ends.{last_is}
use Rattle.store.proofs.last.Goals as goal

pub returns : goal.returns
returns c = last_is _ _ _ _ c.requires (rw c.number-l.ensures at c.last.ensures)
