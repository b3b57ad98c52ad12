-- `store::frame` meets its contract. Assumes nothing.
use Rattle.store.proofs.Laws.{laws}
use Rattle.store.proofs.frame.Goals as goal

pub frame-requires : goal.frame-requires
frame-requires c = search laws

pub overflow_cast-result : goal.overflow_cast-result
overflow_cast-result c = search laws

pub returns : goal.returns
returns c = search laws
