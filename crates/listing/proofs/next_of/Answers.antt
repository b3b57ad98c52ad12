-- `listing::next_of` meets its contract. Assumes nothing.
use Rattle.listing.proofs.Laws.{laws}
use Rattle.listing.proofs.next_of.Goals as goal

pub next-n-requires : goal.next-n-requires
next-n-requires c = search laws

pub overflow_add-k : goal.overflow_add-k
overflow_add-k c = search laws

pub taken_from-requires : goal.taken_from-requires
taken_from-requires c = search laws

pub returns-in-Arc : goal.returns-in-Arc
returns-in-Arc c = search laws

pub returns-in-Car : goal.returns-in-Car
returns-in-Car c = search laws
