-- `residents::exchange_front` meets its contract. The slot goes from the list that its list number says, as if by way of the free slots. Assumes nothing.
use Rattle.residents.proofs.Exchange.{exchange_slot, exchange_asks_front, exchange_has_front, exchange_gives_front}
use Rattle.residents.proofs.exchange_front.Goals as goal

pub list-i-requires : goal.list-i-requires
list-i-requires c = search exchange_slot

pub shift_front-requires : goal.shift_front-requires
shift_front-requires c = search exchange_asks_front

pub set_slot-requires : goal.set_slot-requires
set_slot-requires c = search exchange_has_front

pub returns : goal.returns
returns c = search exchange_gives_front
