-- `listing::first_of` meets its contract. Assumes nothing.
use Rattle.listing.proofs.Laws.{laws}
use Rattle.listing.proofs.first_of.Goals as goal

pub returns-in-Arc : goal.returns-in-Arc
returns-in-Arc c = search laws

pub returns-in-Car : goal.returns-in-Car
returns-in-Car c = search laws
