-- `residents::add_end` meets its contract. The first of the free slots is free. Assumes nothing.
use Rattle.residents.specs.Changes.{added_end, top_of}
use Rattle.residents.proofs.Needs.{free_end, taken_end}
use Rattle.residents.proofs.add_end.Goals as goal

pub shift_end-requires : goal.shift_end-requires
shift_end-requires c = search free_end

pub set_slot-requires : goal.set_slot-requires
set_slot-requires c = search taken_end

pub returns : goal.returns
unfolding top_of added_end
returns c = record { slot = cc; words = cc }
