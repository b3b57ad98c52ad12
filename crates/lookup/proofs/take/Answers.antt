-- `lookup::take` meets its contract. What is lent are the links. Assumes nothing.
use Rattle.lookup.proofs.Needs.{lending}
use Rattle.lookup.proofs.take.Goals as goal

pub unlink-requires : goal.unlink-requires
unlink-requires c = search lending

pub returns : goal.returns
returns c = search lending
