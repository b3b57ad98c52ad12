-- `rings::joins` meets its contract. Each arm is the definition's. Assumes nothing.
use Rattle.rings.proofs.Meeting.{laws}
use Rattle.rings.proofs.joins.Goals as goal

pub next-requires : goal.next-requires
next-requires c = search laws

pub prev-requires : goal.prev-requires
prev-requires c = search laws

pub returns-then-next-b : goal.returns-then-next-b
returns-then-next-b c = search laws

pub returns-else-next-b : goal.returns-else-next-b
returns-else-next-b c = search laws
