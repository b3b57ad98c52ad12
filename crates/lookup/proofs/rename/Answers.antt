-- `lookup::rename` meets its contract. A store to a page leaves the links; what is lent are the links. Assumes nothing.
use Rattle.lookup.proofs.Needs.{lending}
use Rattle.lookup.proofs.rename.Goals as goal

pub hand_over-requires : goal.hand_over-requires
hand_over-requires c = search lending

pub returns : goal.returns
returns c = search lending
