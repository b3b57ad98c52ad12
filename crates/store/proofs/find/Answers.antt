-- `store::find` meets its contract. Assumes nothing.
use Rattle.store.proofs.Laws.{laws}
use Rattle.store.proofs.find.Goals as goal

pub place_of-requires : goal.place_of-requires
place_of-requires c = search laws

pub returns-then-y-c : goal.returns-then-y-c
returns-then-y-c c = search laws

pub returns-then-y-d : goal.returns-then-y-d
returns-then-y-d c = search laws

pub returns : goal.returns
returns c = search laws

pub returns-in_default : goal.returns-in_default
returns-in_default c = search laws
