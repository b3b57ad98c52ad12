-- `lookup::put` meets its contract. A store to a page leaves the links; what is lent are the links. Assumes nothing.
use Rattle.lookup.proofs.Needs.{lending}
use Rattle.lookup.proofs.put.Goals as goal

pub insert-requires : goal.insert-requires
insert-requires c = search lending

pub returns : goal.returns
returns c = search lending
