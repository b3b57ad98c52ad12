-- `lookup::prev_of` meets its contract. What is lent are the links. Assumes nothing.
use Rattle.lookup.proofs.Needs.{reading}
use Rattle.lookup.proofs.prev_of.Goals as goal

pub prev-requires : goal.prev-requires
prev-requires c = search reading

pub returns : goal.returns
returns c = search reading
