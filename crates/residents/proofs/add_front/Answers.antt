-- `residents::add_front` meets its contract. The first of the free slots is free. Assumes nothing.
use Rattle.residents.specs.Changes.{added_front, top_of}
use Rattle.residents.proofs.Needs.{free_front, taken_front}
use Rattle.residents.proofs.add_front.Goals as goal

pub shift_front-requires : goal.shift_front-requires
shift_front-requires c = search free_front

pub set_slot-requires : goal.set_slot-requires
set_slot-requires c = search taken_front

pub returns : goal.returns
unfolding top_of added_front
returns c = record { slot = cc; words = cc }
