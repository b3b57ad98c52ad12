-- `residents::exchange_end` meets its contract. The slot goes from the list that its list number says, as if by way of the free slots. Assumes nothing.
use Rattle.residents.proofs.Exchange.{exchange_slot, exchange_asks_end, exchange_has_end, exchange_gives_end}
use Rattle.residents.proofs.exchange_end.Goals as goal

pub list-i-requires : goal.list-i-requires
list-i-requires c = search exchange_slot

pub shift_end-requires : goal.shift_end-requires
shift_end-requires c = search exchange_asks_end

pub set_slot-requires : goal.set_slot-requires
set_slot-requires c = search exchange_has_end

pub returns : goal.returns
returns c = search exchange_gives_end
