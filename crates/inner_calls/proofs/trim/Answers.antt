-- `inner_calls::trim` meets its contract. Assumes nothing.
use Rattle.inner_calls.proofs.Laws.{trim_arc, trim_car}
use Rattle.inner_calls.proofs.trim.Goals as goal

pub returns-in-Arc : goal.returns-in-Arc
returns-in-Arc c = search trim_arc

pub returns-in-Car : goal.returns-in-Car
returns-in-Car c = search trim_car
