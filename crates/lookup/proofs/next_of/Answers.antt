-- `lookup::next_of` meets its contract. What is lent are the links. Assumes nothing.
use Rattle.lookup.proofs.Needs.{reading}
use Rattle.lookup.proofs.next_of.Goals as goal

pub next-requires : goal.next-requires
next-requires c = search reading

pub returns : goal.returns
returns c = search reading
