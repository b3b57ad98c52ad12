-- `rings::empty` meets its contract. Both stores are to the sentinel. Assumes nothing.
use Rattle.rings.proofs.Needs.{empty_second}
use Rattle.rings.specs.Rings.{emptied}
use Rattle.rings.proofs.Needs.{laws}
use Rattle.rings.proofs.empty.Goals as goal

pub set_next-requires : goal.set_next-requires
set_next-requires c = search laws

pub set_prev-requires : goal.set_prev-requires
set_prev-requires c = search empty_second

pub returns : goal.returns
unfolding emptied
returns c = cc
