-- `inner_calls::touch` meets its contract. Assumes nothing.
use Rattle.inner_calls.proofs.Laws.{touch_arc, touch_car}
use Rattle.inner_calls.proofs.touch.Goals as goal

pub returns-in-Arc : goal.returns-in-Arc
returns-in-Arc c = search touch_arc

pub returns-in-Car : goal.returns-in-Car
returns-in-Car c = search touch_car
