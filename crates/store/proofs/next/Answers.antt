-- `store::next` meets its contract. Assumes nothing.
use Rattle.store.proofs.Laws.{laws}
use Rattle.store.proofs.next.Goals as goal

pub next-requires : goal.next-requires
next-requires c = search laws

pub returns : goal.returns
returns c = search laws
