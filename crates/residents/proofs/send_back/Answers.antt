-- `residents::send_back` meets its contract. The slot is in the list that its list number says. Assumes nothing.
use Rattle.residents.specs.Changes.{sent_back}
use native.Mathlib.Omega.{arith}
use Rattle.residents.proofs.Needs.{resident_slot, resident_end, after_end, after_end_listed}
use Rattle.residents.proofs.send_back.Goals as goal

pub list-i-requires : goal.list-i-requires
list-i-requires c = search resident_slot

pub shift_end-requires : goal.shift_end-requires
shift_end-requires c = resident_end _ _ _ c.requires _ c.list-i.ensures 1 (omega arith)

pub set_list-requires : goal.set_list-requires
set_list-requires c = after_end _ _ _ c.requires _ c.list-i.ensures _ 1 (omega arith) c.shift_end.ensures

pub set_bit-requires : goal.set_bit-requires
set_bit-requires c = after_end_listed _ _ _ c.requires _ c.list-i.ensures _ _ 1 (omega arith) c.shift_end.ensures c.set_list.ensures

pub returns : goal.returns
unfolding sent_back
returns c = cc
