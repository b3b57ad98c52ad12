-- `state_check::live` meets its contract. Assumes nothing.
use Rattle.state_check.proofs.Cases.{count_laws}
use Rattle.state_check.proofs.live.Goals as goal

pub slots-t1-requires : goal.slots-t1-requires
slots-t1-requires c = search count_laws

pub slots-t2-requires : goal.slots-t2-requires
slots-t2-requires c = search count_laws

pub cells-b1-requires : goal.cells-b1-requires
cells-b1-requires c = search count_laws

pub cells-b2-requires : goal.cells-b2-requires
cells-b2-requires c = search count_laws

pub overflow_add-result : goal.overflow_add-result
overflow_add-result c = search count_laws

pub overflow_add-result-2 : goal.overflow_add-result-2
overflow_add-result-2 c = search count_laws

pub overflow_add-result-3 : goal.overflow_add-result-3
overflow_add-result-3 c = search count_laws

pub returns : goal.returns
returns c = search count_laws
