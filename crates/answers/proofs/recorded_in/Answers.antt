-- `answers::recorded_in` meets its contract. Assumes nothing.
use Rattle.answers.proofs.Laws.{laws}
use Rattle.answers.proofs.recorded_in.Goals as goal

pub returns-then-list-eq0 : goal.returns-then-list-eq0
returns-then-list-eq0 c = search laws

pub returns-else-list-eq0 : goal.returns-else-list-eq0
returns-else-list-eq0 c = search laws
