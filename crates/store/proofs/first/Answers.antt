-- `store::first` meets its contract. Assumes nothing.
use Rattle.store.proofs.Ends.{first_is}
use Rattle.store.proofs.first.Goals as goal

pub returns : goal.returns
returns c = first_is _ _ _ _ c.requires (rw c.number-l.ensures at c.first.ensures)
