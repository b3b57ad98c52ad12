-- `listing::prepare_in` meets its contract. Assumes nothing.
use Rattle.listing.proofs.Laws.{laws}
use Rattle.listing.proofs.prepare_in.Goals as goal

pub listed-t1-requires : goal.listed-t1-requires
listed-t1-requires c = search laws

pub listed-t2-requires : goal.listed-t2-requires
listed-t2-requires c = search laws

pub overflow_add-n : goal.overflow_add-n
overflow_add-n c = search laws

pub returns-then-room-n : goal.returns-then-room-n
returns-then-room-n c = search laws

pub first_of-first-requires : goal.first_of-first-requires
first_of-first-requires c = search laws

pub returns : goal.returns
returns c = search laws
