-- `inner_calls::exchange` meets its contract. Assumes nothing.
use Rattle.inner_calls.proofs.Laws.{exchange_arc, exchange_car}
use Rattle.inner_calls.proofs.exchange.Goals as goal

pub returns-in-Arc : goal.returns-in-Arc
returns-in-Arc c = search exchange_arc

pub returns-in-Car : goal.returns-in-Car
returns-in-Car c = search exchange_car
