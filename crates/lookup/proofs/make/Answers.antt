-- `lookup::make` meets its contract. What is lent are the links. Assumes nothing.
use Rattle.lookup.proofs.Needs.{lending}
use Rattle.lookup.proofs.make.Goals as goal

pub wipe-requires : goal.wipe-requires
wipe-requires c = search lending

pub returns : goal.returns
returns c = search lending
