-- `store::set_frame` meets its contract. Assumes nothing.
use Rattle.store.proofs.Laws.{laws}
use Rattle.store.proofs.set_frame.Goals as goal

pub set_frame-requires : goal.set_frame-requires
set_frame-requires c = search laws

pub returns : goal.returns
returns c = search laws
