-- `residents::set_slot` meets its contract. A slot stays a slot where its words are written. Assumes nothing.
use Rattle.residents.specs.Changes.{with_slot}
use Rattle.residents.proofs.Needs.{has_frame, has_list}
use Rattle.residents.proofs.set_slot.Goals as goal

pub set_list-requires : goal.set_list-requires
set_list-requires c = search has_frame

pub set_bit-requires : goal.set_bit-requires
set_bit-requires c = has_list _ _ _ _ _ (has_frame _ _ _ _ _ c.requires c.set_frame.ensures) c.set_list.ensures

pub returns : goal.returns
unfolding with_slot
returns c = cc
