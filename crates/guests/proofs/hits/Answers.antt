-- `guests::hits` meets its contract. Assumes nothing.
use Rattle.guests.proofs.Laws.{laws}
use Rattle.guests.proofs.hits.Goals as goal

pub returns-in-Resident : goal.returns-in-Resident
returns-in-Resident c = search laws

pub returns-in-Filled : goal.returns-in-Filled
returns-in-Filled c = search laws
