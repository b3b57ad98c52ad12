-- `store::set_bit` meets its contract. Assumes nothing.
use Rattle.store.proofs.Slots.{bit_left}
use Rattle.store.proofs.Laws.{laws}
use Rattle.store.proofs.set_bit.Goals as goal

pub set_bit-requires : goal.set_bit-requires
set_bit-requires c = search laws

pub returns : goal.returns
returns c = bit_left _ _ _ c.requires _ _ c.set_bit.ensures
