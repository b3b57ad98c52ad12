-- `lookup_check::places` meets its contract. Assumes nothing.
use Rattle.lookup_check.proofs.Checking.{laws}
use Rattle.lookup_check.proofs.places.Goals as goal

pub returns-then-x-m : goal.returns-then-x-m
returns-then-x-m c = search laws

pub returns-else-x-m : goal.returns-else-x-m
returns-else-x-m c = search laws
