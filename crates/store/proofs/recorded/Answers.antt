-- `store::recorded` meets its contract. Assumes nothing.
use Rattle.store.proofs.Laws.{laws}
use Rattle.store.proofs.recorded.Goals as goal

pub returns : goal.returns
returns c = search laws
