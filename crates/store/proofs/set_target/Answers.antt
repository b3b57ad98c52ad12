-- `store::set_target` meets its contract. Assumes nothing.
use Rattle.store.proofs.Laws.{laws}
use Rattle.store.proofs.set_target.Goals as goal

pub returns : goal.returns
returns c = search laws
