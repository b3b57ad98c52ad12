-- `inner_calls::put` meets its contract. Assumes nothing.
use Rattle.inner_calls.proofs.Laws.{put_arc, put_car}
use Rattle.inner_calls.proofs.put.Goals as goal

pub returns-in-Arc : goal.returns-in-Arc
returns-in-Arc c = search put_arc

pub returns-in-Car : goal.returns-in-Car
returns-in-Car c = search put_car
