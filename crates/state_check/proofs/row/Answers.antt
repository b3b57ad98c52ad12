-- `state_check::row` meets its contract. Assumes nothing.
use Rattle.state_check.proofs.Cases.{count_laws}
use Rattle.state_check.proofs.row.Goals as goal

pub slots-t1-requires : goal.slots-t1-requires
slots-t1-requires c = search count_laws

pub cells-b1-requires : goal.cells-b1-requires
cells-b1-requires c = search count_laws

pub overflow_add-result : goal.overflow_add-result
overflow_add-result c = search count_laws

pub returns : goal.returns
returns c = search count_laws
