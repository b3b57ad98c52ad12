-- `store::name` meets its contract. Assumes nothing.
use Rattle.store.proofs.Laws.{laws}
use Rattle.store.proofs.name.Goals as goal

pub page-page-requires : goal.page-page-requires
page-page-requires c = search laws

pub frame-frame-requires : goal.frame-frame-requires
frame-frame-requires c = search laws

pub overflow_cast-frame : goal.overflow_cast-frame
overflow_cast-frame c = search laws

pub returns : goal.returns
returns c = search laws
