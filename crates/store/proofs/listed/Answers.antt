-- `store::listed` meets its contract. Assumes nothing.
use Rattle.store.proofs.Ghosts.{listed_is_lem}
use Rattle.store.proofs.listed.Goals as goal

pub returns : goal.returns
returns c = listed_is_lem _ _ _ _ c.requires (rw c.number-l.ensures at c.count.ensures)
