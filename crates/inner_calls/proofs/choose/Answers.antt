-- `inner_calls::choose` meets its contract. Assumes nothing.
use Rattle.inner_calls.proofs.Laws.{choose_arc, choose_car}
use Rattle.inner_calls.proofs.choose.Goals as goal

pub returns-in-Arc : goal.returns-in-Arc
returns-in-Arc c = search choose_arc

pub returns-in-Car : goal.returns-in-Car
returns-in-Car c = search choose_car
