-- `lookup::hand_over` meets its contract. The cell is there, before the store and after it. Assumes nothing.
use Rattle.lookup.specs.Changes.{handed_over}
use Rattle.lookup.proofs.Needs.{marking}
use Rattle.lookup.proofs.hand_over.Goals as goal

pub set_prev-requires : goal.set_prev-requires
set_prev-requires c = search marking

pub returns : goal.returns
unfolding handed_over
returns c = cc
