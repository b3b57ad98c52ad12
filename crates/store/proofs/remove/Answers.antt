-- `store::remove` meets its contract. Assumes nothing.
use Rattle.store.proofs.Laws.{laws}
use Rattle.store.proofs.remove.Goals as goal

pub free-requires : goal.free-requires
free-requires c = search laws

pub take-requires : goal.take-requires
take-requires c = search laws

pub returns : goal.returns
returns c = search laws
