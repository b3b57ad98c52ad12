-- `rings::link` meets its contract. Assumes nothing.
use Rattle.rings.proofs.Filling.{laws}
use Rattle.rings.proofs.link.Goals as goal

pub set_next-requires : goal.set_next-requires
set_next-requires c = search laws

pub set_prev-requires : goal.set_prev-requires
set_prev-requires c = search laws

pub returns : goal.returns
returns c = search laws
