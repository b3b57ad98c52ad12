-- `store::referenced` meets its contract. Assumes nothing.
use Rattle.store.proofs.Laws.{laws}
use Rattle.store.proofs.referenced.Goals as goal

pub bit-requires : goal.bit-requires
bit-requires c = search laws

pub returns : goal.returns
returns c = search laws
