-- `rings::detach` meets its contract. The cells that the stores touch are there, before each and after it. Assumes nothing.
use Rattle.rings.proofs.Needs.{detach_first, detach_second}
use Rattle.rings.specs.Rings.{detached}
use Rattle.rings.proofs.Needs.{laws}
use Rattle.rings.proofs.detach.Goals as goal

pub prev-p-requires : goal.prev-p-requires
prev-p-requires c = search laws

pub next-n-requires : goal.next-n-requires
next-n-requires c = search laws

pub set_next-requires : goal.set_next-requires
set_next-requires c = search detach_first

pub set_prev-requires : goal.set_prev-requires
set_prev-requires c = search detach_second

pub returns : goal.returns
unfolding detached
returns c = cc
