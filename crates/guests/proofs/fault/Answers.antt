-- `guests::fault` meets its contract: `get`, and after a miss `insert`, are the rules' page fault. Assumes nothing.
use Rattle.guests.proofs.Laws.{laws}
use Rattle.guests.proofs.fault.Goals as goal

pub capacity-c-requires : goal.capacity-c-requires
capacity-c-requires c = search laws

pub get-requires : goal.get-requires
get-requires c = search laws

pub insert-requires : goal.insert-requires
insert-requires c = search laws

pub returns-in-Some : goal.returns-in-Some
returns-in-Some c = search laws

pub returns-in-None : goal.returns-in-None
returns-in-None c = search laws
