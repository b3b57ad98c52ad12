-- `store::taken` meets its contract. Assumes nothing.
use Rattle.store.proofs.Laws.{laws}
use Rattle.store.proofs.taken.Goals as goal

pub returns : goal.returns
returns c = search laws
