-- `residents::free` meets its contract. The slot is in the list that its list number says. Assumes nothing.
use Rattle.residents.specs.Changes.{freed}
use native.Mathlib.Omega.{arith}
use Rattle.residents.proofs.Needs.{resident_slot, resident_front}
use Rattle.residents.proofs.free.Goals as goal

pub list-i-requires : goal.list-i-requires
list-i-requires c = search resident_slot

pub shift_front-requires : goal.shift_front-requires
shift_front-requires c = resident_front _ _ _ c.requires _ c.list-i.ensures 2 (omega arith)

pub returns : goal.returns
unfolding freed
returns c = cc
