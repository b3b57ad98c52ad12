-- `store::to_end` meets its contract. Assumes nothing.
use Rattle.store.proofs.Laws.{laws}
use Rattle.store.proofs.to_end.Goals as goal

pub send_back-requires : goal.send_back-requires
send_back-requires c = search laws

pub returns : goal.returns
returns c = search laws
