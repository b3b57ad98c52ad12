-- `state_check::cells` meets its contract. Assumes nothing.
use Rattle.state_check.proofs.Cases.{count_laws}
use Rattle.state_check.proofs.cells.Goals as goal

pub count-requires : goal.count-requires
count-requires c = search count_laws

pub returns : goal.returns
returns c = search count_laws
