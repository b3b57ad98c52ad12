-- `state_check::slots` meets its contract. Assumes nothing.
use Rattle.state_check.proofs.Cases.{count_laws}
use Rattle.state_check.proofs.slots.Goals as goal

pub count-requires : goal.count-requires
count-requires c = search count_laws

pub returns : goal.returns
returns c = search count_laws
